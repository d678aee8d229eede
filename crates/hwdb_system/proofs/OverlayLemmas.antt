-- Errors over a file system with another database in its place.
use Rattle.std.proofs.Common.{◌≡◌, ◌∙◌, ◌⊎◌, ◌<◌, inl, inr, ap, sym, subst, true, false, Result, Ok, Err, IfErr, IfOk, List, ℕ, Option, IfSome}
use Rattle.std.specs.Prelude.{is_some, length}
use Rattle.hwdb_spec_commands.specs.GivenFolders.{IsUnlistedFolder}
use Rattle.hwdb_spec.specs.Store.{Contents}
use Rattle.hwdb_spec.specs.System.{bytes_at}
use Rattle.hwdb_spec.specs.Texts.{max_file}
use Rattle.hwdb_spec_commands.specs.Refusals.{HasReason, IsAt, IsUnlisted, IsUnread, IsUnreadAt, IsUnreadable}
use Rattle.hwdb_spec.specs.declared.errors.ToolError.TheVariants.{Read, Write, TooLong, TooManyFiles, TooManyLines, TooLarge, BadPosition, BadDatabase, Replace, Memory}
use Rattle.hwdb_spec_commands.specs.declared.refusals.Refusal.{Refusal}
use Rattle.hwdb_spec_commands.specs.declared.refusals.Refusal.TheVariants.{At, InWords, NoDatabase, Plain}
use Rattle.hwdb_spec_commands.specs.Told.{IsListedTo, Unlisted}
use Rattle.hwdb_system.specs.Lemmas.OverNames.{is_database, same_at, shown, there_at}

module _ (root made : List ℕ) (files : Contents) where
  -- what is said of another path is so
  pub unlisted_over : (path : List ℕ) (r : Refusal) → is_database root made files path ≡ false → IsUnlistedFolder files path r → IsUnlistedFolder (shown root made files) path r
  unlisted_over path (At TooLong at cause) other is = (is.0, same_at root made files path other ∙ is.1)
  unlisted_over path (At Read at cause) other is = is
  unlisted_over path (At Write at cause) other is = is
  unlisted_over path (At TooManyFiles at cause) other is = is
  unlisted_over path (At TooManyLines at cause) other is = is
  unlisted_over path (At TooLarge at cause) other is = is
  unlisted_over path (At BadPosition at cause) other is = is
  unlisted_over path (At (BadDatabase fault) at cause) other is = is
  unlisted_over path (At (Replace u) at cause) other is = is
  unlisted_over path (At Memory at cause) other is = is
  unlisted_over path (Plain e) other is = is
  unlisted_over path NoDatabase other is = is
  unlisted_over path (InWords text) other is = is

  pub unread_over : (path : List ℕ) (r : Refusal) → is_database root made files path ≡ false → IsUnreadAt files path r → IsUnreadAt (shown root made files) path r
  unread_over path (At TooLong at cause) other is = (is.0, ap is_some (same_at root made files path other) ∙ is.1)
  unread_over path (At Read at cause) other is = is
  unread_over path (At Write at cause) other is = is
  unread_over path (At TooManyFiles at cause) other is = is
  unread_over path (At TooManyLines at cause) other is = is
  unread_over path (At TooLarge at cause) other is = is
  unread_over path (At BadPosition at cause) other is = is
  unread_over path (At (BadDatabase fault) at cause) other is = is
  unread_over path (At (Replace u) at cause) other is = is
  unread_over path (At Memory at cause) other is = is
  unread_over path (Plain e) other is = is
  unread_over path NoDatabase other is = is
  unread_over path (InWords text) other is = is

  module _ (fails : List ℕ → Type 0) where
    long_over : (path at : List ℕ) → is_database root made files path ≡ false → at ≡ path → IfSome (bytes_at files at) (λ bytes. max_file < length bytes) → IfSome (bytes_at (shown root made files) at) (λ bytes. max_file < length bytes)
    long_over path at other is long = subst (λ (o : Option (List ℕ)). IfSome o (λ bytes. max_file < length bytes)) (sym (same_at root made files at (ap (is_database root made files) is ∙ other))) long

    pub listing_reason : (path : List ℕ) (r : Refusal) → is_database root made files path ≡ false → IsUnlisted path r → HasReason fails ⊥ files r → HasReason fails ⊥ (shown root made files) r
    listing_reason path (At TooLong at cause) other is reason = long_over path at.items other is reason
    listing_reason path (At Read at cause) other is reason = reason
    listing_reason path (At Write at cause) other is reason = reason
    listing_reason path (At TooManyFiles at cause) other is reason = reason
    listing_reason path (At TooManyLines at cause) other is reason = reason
    listing_reason path (At TooLarge at cause) other is reason = reason
    listing_reason path (At BadPosition at cause) other is reason = reason
    listing_reason path (At (BadDatabase fault) at cause) other is reason = reason
    listing_reason path (At (Replace u) at cause) other is reason = reason
    listing_reason path (At Memory at cause) other is reason = reason
    listing_reason path (Plain e) other is reason = reason
    listing_reason path NoDatabase other is reason = reason
    listing_reason path (InWords text) other is reason = reason

    -- the same of a path that is read, if reading what isn't there fails
    pub reading_reason : (path : List ℕ) (r : Refusal) → is_database root made files path ≡ false → IsUnread path r → HasReason (IsUnreadable fails files) ⊥ files r → HasReason (IsUnreadable fails (shown root made files)) ⊥ (shown root made files) r
    reading_reason path (At TooLong at cause) other is reason = long_over path at.items other is reason
    reading_reason path (At Read at cause) other is (inl none) = inl (same_at root made files at.items (ap (is_database root made files) is ∙ other) ∙ none)
    reading_reason path (At Read at cause) other is (inr fail) = inr fail
    reading_reason path (At Write at cause) other is reason = reason
    reading_reason path (At TooManyFiles at cause) other is reason = reason
    reading_reason path (At TooManyLines at cause) other is reason = reason
    reading_reason path (At TooLarge at cause) other is reason = reason
    reading_reason path (At BadPosition at cause) other is reason = reason
    reading_reason path (At (BadDatabase fault) at cause) other is reason = reason
    reading_reason path (At (Replace u) at cause) other is reason = reason
    reading_reason path (At Memory at cause) other is reason = reason
    reading_reason path (Plain e) other is reason = reason
    reading_reason path NoDatabase other is reason = reason
    reading_reason path (InWords text) other is reason = reason

    -- and of one that is read if it is there
    pub looking_reason : (path : List ℕ) (r : Refusal) → is_database root made files path ≡ false → IsUnread path r → HasReason fails ⊥ files r → HasReason fails ⊥ (shown root made files) r
    looking_reason path (At TooLong at cause) other is reason = long_over path at.items other is reason
    looking_reason path (At Read at cause) other is reason = reason
    looking_reason path (At Write at cause) other is reason = reason
    looking_reason path (At TooManyFiles at cause) other is reason = reason
    looking_reason path (At TooManyLines at cause) other is reason = reason
    looking_reason path (At TooLarge at cause) other is reason = reason
    looking_reason path (At BadPosition at cause) other is reason = reason
    looking_reason path (At (BadDatabase fault) at cause) other is reason = reason
    looking_reason path (At (Replace u) at cause) other is reason = reason
    looking_reason path (At Memory at cause) other is reason = reason
    looking_reason path (Plain e) other is reason = reason
    looking_reason path NoDatabase other is reason = reason
    looking_reason path (InWords text) other is reason = reason

-- ---- the database's bytes, copied
-- they are too long, or there was no memory
abbrev pub IsTooLong : (path made : List ℕ) → Refusal → Type 0
IsTooLong path made r = (r ≡ Plain Memory) ⊎ (IsAt TooLong path r × (max_file < length made))

module _ (root made : List ℕ) (files : Contents) where
  pub copied_plain : (path : List ℕ) (r : Refusal) → IsTooLong path made r → IsUnread path r
  copied_plain path r (inl memory) = subst (IsUnread path) (sym memory) tt
  copied_plain path (Plain e) (inr long) = subst (λ e. IsUnread path (Plain e)) (sym long.0) tt
  copied_plain path (At e at cause) (inr long) = subst (λ e. IsUnread path (At e at cause)) (sym long.0.0) long.0.1
  copied_plain path NoDatabase (inr long) = absurd long.0
  copied_plain path (InWords text) (inr long) = absurd long.0

  pub copied_unread : (path : List ℕ) (r : Refusal) → is_database root made files path ≡ true → IsTooLong path made r → IsUnreadAt (shown root made files) path r
  copied_unread path r here (inl memory) = subst (IsUnreadAt (shown root made files) path) (sym memory) tt
  copied_unread path (Plain e) here (inr long) = subst (λ e. IsUnreadAt (shown root made files) path (Plain e)) (sym long.0) tt
  copied_unread path (At e at cause) here (inr long) =
      subst (λ e. IsUnreadAt (shown root made files) path (At e at cause)) (sym long.0.0) (long.0.1, ap is_some (there_at root made files path here))
  copied_unread path NoDatabase here (inr long) = absurd long.0
  copied_unread path (InWords text) here (inr long) = absurd long.0

  pub copied_reason : (Un : List ℕ → Type 0) (path : List ℕ) (r : Refusal) → is_database root made files path ≡ true → IsTooLong path made r → HasReason Un ⊥ (shown root made files) r
  copied_reason Un path r here (inl memory) = subst (HasReason Un ⊥ (shown root made files)) (sym memory) tt
  copied_reason Un path (Plain e) here (inr long) = tt
  copied_reason Un path (At e at cause) here (inr long) =
      subst (λ e. HasReason Un ⊥ (shown root made files) (At e at cause)) (sym long.0.0)
      (subst (λ (o : Option (List ℕ)). IfSome o (λ bytes. max_file < length bytes)) (sym (there_at root made files at.items (ap (is_database root made files) long.0.1 ∙ here))) long.1)
  copied_reason Un path NoDatabase here (inr long) = absurd long.0
  copied_reason Un path (InWords text) here (inr long) = absurd long.0

-- ---- results
pub kept_value : {T E : Type 0} (P Q : T → Type 0) (listed result : Result T E) → ((x : T) → P x → Q x) → IfOk result (λ x. listed ≡ Ok x) → IfOk listed P → IfOk result Q
kept_value P Q listed (Ok x) f same p = f x (subst (λ l. IfOk l P) same p)
kept_value P Q listed (Err e) f same p = tt

pub kept_told : {Y : Type 0} (value : Y → List (List ℕ)) (answer : Result (List (List ℕ)) Unlisted) (folder : List ℕ) (listed result : Result Y Refusal)
    → IfOk result (λ x. listed ≡ Ok x) → IfErr result (λ r. r ≡ Plain Memory) → IsListedTo value answer folder listed → IsListedTo value answer folder result
kept_told value answer folder listed (Ok x) same memory told = subst (IsListedTo value answer folder) same told
kept_told value answer folder listed (Err r) same memory told = inl memory

pub both_errors : {T E : Type 0} (P Q R : E → Type 0) (r : Result T E) → ((e : E) → P e → Q e → R e) → IfErr r P → IfErr r Q → IfErr r R
both_errors P Q R (Ok x) f p q = tt
both_errors P Q R (Err x) f p q = f x p q
