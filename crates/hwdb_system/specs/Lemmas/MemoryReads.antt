-- What a store in memory tells is what is there.
use Rattle.std.proofs.Common.{◌≡◌, ◌≤◌, ◌<◌, ◌∙◌, ◌⊎◌, ◌∷◌, inl, inr, ap, sym, subst, List, [], Option, None, Some, Result, Ok, Err, IfSome, ℕ, Bool, true, false, refl, length, arith}
use Rattle.hwdb_spec.specs.declared.causes.Cause.TheVariants as why
use Rattle.std.specs.Prelude.{IsUtf8, cond, not, pos, is_some, nat_le, if◌then◌else◌}
use Rattle.std.specs.Str.{is_utf8}
use Rattle.std.proofs.lemmas.Str.{is_utf8-from_IsUtf8}
use Rattle.std.proofs.lemmas.Bool.Decides.{nat_tests}
use Rattle.hwdb_spec.specs.Store.{Contents}
use Rattle.hwdb_spec_commands.specs.Ignored.{AreIgnoredIn, text_folder}
use Rattle.hwdb_spec_commands.specs.Reading.{IsFolderAt}
use Rattle.hwdb_spec.specs.System.{AreNamesIn, bytes_at}
use Rattle.hwdb_spec.specs.Texts.{max_file}
use Rattle.hwdb_system.specs.Internal.{IsMisnamed, names_after}
use Rattle.hwdb_system.specs.Lemmas.MemoryNames.{ignored_are, names_are}
use Rattle.hwdb_system.specs.Raw.{present}
use Rattle.hwdb_spec_commands.specs.declared.unread.Unread.{Unread}
use Rattle.hwdb_spec_commands.specs.declared.unread.Unread.TheVariants as unread
use Rattle.hwdb_replace.specs.Memory.{seen_of}
use Rattle.hwdb_replace.specs.declared.memory.Step.{Step}
use Rattle.hwdb_system.specs.Reads.{file_told, found_told, memory_reads}
use Rattle.hwdb_spec_commands.specs.Refusals.{IsOfCause}
use Rattle.hwdb_spec.specs.declared.errors.ToolError.TheVariants.{Read}
use Rattle.hwdb_spec_commands.specs.declared.refusals.Refusal.{Refusal}
use Rattle.hwdb_spec_commands.specs.declared.refusals.Refusal.TheVariants as refusal
use Rattle.hwdb_spec_commands.specs.RulePaths.{rules_folder}
use Rattle.hwdb_spec_commands.specs.Told.{AreReadsOf, IsSo, IsSoOfFolder, IsUnreadAs, Unlisted, first_misnamed, names_told, unless_misnamed}
use Rattle.hwdb_spec_commands.specs.Told.Stop.{Over}
use Rattle.hwdb_spec_commands.specs.Told.Unlisted.{Misnamed}

-- a length is within, or it isn't
pub within_ok : (b bytes : List ℕ) (t : Bool) → nat_le (length b) max_file ≡ t → (let r : Result (List ℕ) Unread = if t then Ok b else Err unread.TooLong in r ≡ Ok bytes) → (b ≡ bytes) × (length bytes ≤ max_file)
within_ok b bytes true test is =
    let same : b ≡ bytes = cc in
    let le : length b ≤ max_file = grind (arith, nat_tests) in
    (same, subst (λ (l : List ℕ). length l ≤ max_file) same le)
within_ok b bytes false test is = cc

pub above_err : (b : List ℕ) (u : Unread) (t : Bool) → nat_le (length b) max_file ≡ t → (let r : Result (List ℕ) Unread = if t then Ok b else Err unread.TooLong in r ≡ Err u) → (u ≡ unread.TooLong) × (max_file < length b)
above_err b u true test is = cc
above_err b u false test is = (cc, grind (arith, nat_tests))

pub present_ok : (b : List ℕ) (f : Option (List ℕ)) (t : Bool) → nat_le (length b) max_file ≡ t → present (if t then Ok b else Err unread.TooLong) ≡ Ok f → (Some b ≡ f) × IfSome f (λ x. length x ≤ max_file)
present_ok b f true test is =
    let same : Some b ≡ f = cc in
    let le : length b ≤ max_file = grind (arith, nat_tests) in
    (same, subst (λ (o : Option (List ℕ)). IfSome o (λ x. length x ≤ max_file)) same le)
present_ok b f false test is = cc

pub present_err : (b : List ℕ) (u : Unread) (t : Bool) → nat_le (length b) max_file ≡ t → present (if t then Ok b else Err unread.TooLong) ≡ Err u → (u ≡ unread.TooLong) × (max_file < length b)
present_err b u true test is = cc
present_err b u false test is = (cc, grind (arith, nat_tests))

file_ok : (o : Option (List ℕ)) (bytes : List ℕ) → file_told o ≡ Ok bytes → (o ≡ Some bytes) × (length bytes ≤ max_file)
file_ok None bytes is = cc
file_ok (Some b) bytes is = let h = within_ok b bytes (nat_le (length b) max_file) refl is in (ap Some h.0, h.1)

found_ok : (o f : Option (List ℕ)) → found_told o ≡ Ok f → (o ≡ f) × IfSome f (λ x. length x ≤ max_file)
found_ok None f is = let same : None ≡ f = cc in (same, subst (λ (p : Option (List ℕ)). IfSome p (λ x. length x ≤ max_file)) same tt)
found_ok (Some b) f is = present_ok b f (nat_le (length b) max_file) refl is

module _ (seen : Contents) (path : List ℕ) where
  long : (U : Type 0) (b : List ℕ) (u : Unread) → bytes_at seen path ≡ Some b → (u ≡ unread.TooLong) × (max_file < length b) → IsSo seen U path u
  long U b u at h =
      subst (λ (v : Unread). IsSo seen U path v) (sym h.0)
      (ap is_some at, subst (λ (o : Option (List ℕ)). IfSome o (λ x. max_file < length x)) (sym at) h.1)

  file_err : (U : Type 0) (o : Option (List ℕ)) (u : Unread) → bytes_at seen path ≡ o → file_told o ≡ Err u → IsSo seen ((bytes_at seen path ≡ None) ⊎ U) path u
  file_err U None u at is =
      let none : unread.Failed (Some (why.System (pos 2))) ≡ u = cc in
      subst (λ (v : Unread). IsSo seen ((bytes_at seen path ≡ None) ⊎ U) path v) none (inl at)
  file_err U (Some b) u at is = long ((bytes_at seen path ≡ None) ⊎ U) b u at (above_err b u (nat_le (length b) max_file) refl is)

  found_err : (U : Type 0) (o : Option (List ℕ)) (u : Unread) → bytes_at seen path ≡ o → found_told o ≡ Err u → IsSo seen U path u
  found_err U None u at is = cc
  found_err U (Some b) u at is = long U b u at (present_err b u (nat_le (length b) max_file) refl is)

-- ---- names
told_all : (m : Option (List ℕ)) (listing names : List (List ℕ)) → unless_misnamed m listing ≡ Ok names → listing ≡ names
told_all None listing names is = cc
told_all (Some name) listing names is = absurd (cc)

present_all : (m : Option (List ℕ)) (listing : List (List ℕ)) (found : Option (List (List ℕ))) → present (unless_misnamed m listing) ≡ Ok found → Some listing ≡ found
present_all None listing found is = cc
present_all (Some name) listing found is = absurd (cc)

present_none : (m : Option (List ℕ)) (listing : List (List ℕ)) (u : Unlisted) → present (unless_misnamed m listing) ≡ Err u → unless_misnamed m listing ≡ Err u
present_none None listing u is = absurd (cc)
present_none (Some name) listing u is = cc

untold : (m : Option (List ℕ)) (listing : List (List ℕ)) (u : Unlisted) → unless_misnamed m listing ≡ Err u → (name : List ℕ) × (m ≡ Some name) × (u ≡ Misnamed name)
untold None listing u is = absurd (cc)
untold (Some name) listing u is = (name, refl, cc)

first_here : (x name : List ℕ) (names : List (List ℕ)) → (first_misnamed names ≡ Some name → is_utf8 name ≡ false) → (b : Bool) → is_utf8 x ≡ b
    → cond (not b) (Some x) (first_misnamed names) ≡ Some name → is_utf8 name ≡ false
first_here x name names later true e is = later is
first_here x name names later false e is = let same : x ≡ name = cc in ap is_utf8 (sym same) ∙ e

first_is : (names : List (List ℕ)) (name : List ℕ) → first_misnamed names ≡ Some name → is_utf8 name ≡ false
first_is [] name is = absurd (cc)
first_is (x ∷ names) name is = first_here x name names (first_is names name) (is_utf8 x) refl is

no_utf8 : (name : List ℕ) → is_utf8 name ≡ false → IsUtf8 name → ⊥
no_utf8 name none utf8 = let given = is_utf8-from_IsUtf8 name utf8 in cc

module _ (steps : List Step) (folder : List ℕ) where
  names_ok : (names : List (List ℕ)) → names_told (names_after false steps folder) ≡ Ok names → AreNamesIn folder (seen_of steps) names
  names_ok names is =
      subst (AreNamesIn folder (seen_of steps)) (told_all (first_misnamed (names_after false steps folder)) (names_after false steps folder) names is) (names_are steps folder)

  names_err : (Long : Type 0) (u : Unlisted) → names_told (names_after false steps folder) ≡ Err u → IsSoOfFolder Long (λ path. IsMisnamed path) folder u
  names_err Long u is =
      let first = untold (first_misnamed (names_after false steps folder)) (names_after false steps folder) u is in
      let bad = first_is (names_after false steps folder) first.0 first.1 in
      subst (IsSoOfFolder Long (λ path. IsMisnamed path) folder) (sym first.2) ((folder, first.0, refl, no_utf8 first.0 bad), bad)

  folder_ok : (b : Bool) (found : Option (List (List ℕ))) → is_some (bytes_at (seen_of steps) folder) ≡ b → (if b then Ok None else present (names_told (names_after false steps folder))) ≡ Ok found
      → IsFolderAt folder (seen_of steps) found
  folder_ok true found at is = let same : None ≡ found = cc in subst (IsFolderAt folder (seen_of steps)) same at
  folder_ok false found at is =
      subst (IsFolderAt folder (seen_of steps)) (present_all (first_misnamed (names_after false steps folder)) (names_after false steps folder) found is) (at, names_are steps folder)

  folder_err : (Long : Type 0) (b : Bool) (u : Unlisted) → (if b then Ok None else present (names_told (names_after false steps folder))) ≡ Err u → IsSoOfFolder Long (λ path. IsMisnamed path) folder u
  folder_err Long true u is = absurd (cc)
  folder_err Long false u is = names_err Long u (present_none (first_misnamed (names_after false steps folder)) (names_after false steps folder) u is)

  ignored_ok : (names : List (List ℕ)) → (let told : Result (List (List ℕ)) Unread = Ok (names_after true steps folder) in told ≡ Ok names) → AreIgnoredIn folder (seen_of steps) names
  ignored_ok names is = let same : names_after true steps folder ≡ names = cc in subst (AreIgnoredIn folder (seen_of steps)) same (ignored_are steps folder)

pub memory_agrees : (steps : List Step) → AreReadsOf (memory_reads steps) (seen_of steps) (λ path. IsMisnamed path)
memory_agrees steps = record {
  input = λ path bytes is. file_ok (bytes_at (seen_of steps) path) bytes is;
  no_input = λ path u is. file_err (seen_of steps) path (IsMisnamed path) (bytes_at (seen_of steps) path) u refl is;
  text = λ path bytes is. file_ok (bytes_at (seen_of steps) path) bytes is;
  no_text = λ path u is. file_err (seen_of steps) path (IsMisnamed path) (bytes_at (seen_of steps) path) u refl is;
  database = λ path found is. found_ok (bytes_at (seen_of steps) path) found is;
  no_database = λ path u is. found_err (seen_of steps) path (IsMisnamed path) (bytes_at (seen_of steps) path) u refl is;
  names = λ folder names is. names_ok steps folder names is;
  no_names = λ usr root u is.
      names_err steps (text_folder usr root) (IfSome (bytes_at (seen_of steps) (text_folder usr root)) (λ bytes. max_file < length bytes)) u is;
  folder = λ path found is. folder_ok steps path (is_some (bytes_at (seen_of steps) path)) found refl is;
  no_folder = λ path u is. folder_err steps path (bytes_at (seen_of steps) path ≡ None) (is_some (bytes_at (seen_of steps) path)) u is;
  ignored = λ usr root names is. ignored_ok steps (text_folder usr root) names is;
  no_ignored = λ usr root w is. absurd (cc);
  rules = λ root f names is. ignored_ok steps (rules_folder root f) names is;
  no_rules = λ root f w is. absurd (cc);
}

-- nothing is there, and the error says so
none_if : (b : List ℕ) (t : Bool) → present (if t then Ok b else Err unread.TooLong) ≡ Ok None → ⊥
none_if b true is = cc
none_if b false is = cc

pub none_told : (o : Option (List ℕ)) → found_told o ≡ Ok None → file_told o ≡ Err (unread.Failed (Some (why.System (pos 2))))
none_told None is = refl
none_told (Some b) is = absurd (none_if b (nat_le (length b) max_file) is)

pub none_untold : (o : Option (List ℕ)) (at path : List ℕ) (r : Refusal) → found_told o ≡ Ok None → at ≡ path → IsOfCause Read at (Some (why.System (pos 2))) r → IsUnreadAs (file_told o) path r
none_untold o at path (refusal.Plain e) none same of = inl (ap refusal.Plain of)
none_untold o at path (refusal.At e p c) none same of = inr (unread.Failed (Some (why.System (pos 2))), none_told o none, says)
  where
    error : e ≡ Read
    error = of.0

    cause : c ≡ Some (why.System (pos 2))
    cause = of.2

    there : p.items ≡ path
    there = of.1 ∙ same

    says : Over e p.items c ≡ Over Read path (Some (why.System (pos 2)))
    says = cc
none_untold o at path refusal.NoDatabase none same of = absurd of
none_untold o at path (refusal.InWords text) none same of = absurd of
