-- What is told of a file system with another database in its place.
use Rattle.std.specs.Prelude.{◌≡◌, ◌≤◌, ◌<◌, ℕ, Bool, true, false, List, None, Option, Some, Result, Ok, Err, IfSome, is_some, length, nat_le, if◌then◌else◌, option_map}
use Rattle.std.proofs.Common.{◌∙◌, ap, inl, inr, refl, sym, subst}
use Rattle.std.specs.Str.{bytes_eq}
use Rattle.hwdb_spec_commands.specs.Asked.{database_path}
use Rattle.hwdb_spec_commands.specs.Ignored.{text_folder}
use Rattle.hwdb_rulefiles.specs.declared.choice.Folder.{Folder}
use Rattle.hwdb_spec_commands.specs.Reading.{IsFolderAt}
use Rattle.hwdb_spec_commands.specs.RulePaths.{rules_folder}
use Rattle.hwdb_spec_commands.specs.OverText.{with_database}
use Rattle.hwdb_spec_commands.specs.Refusals.{IsUnreadable}
use Rattle.hwdb_spec.specs.Store.{Contents, Stored, database_file}
use Rattle.hwdb_spec.specs.System.{bytes_at}
use Rattle.hwdb_spec.specs.Texts.{max_file}
use Rattle.hwdb_system.specs.Lemmas.MemoryReads.{above_err, present_err, present_ok, within_ok}
use Rattle.hwdb_system.specs.Lemmas.OverNames.{folder_over, ignored_over, is_database, names_over, rules_folder_apart, rules_over, same_at, shown, text_folder_apart, there_at}
use Rattle.hwdb_system.specs.Raw.{present, told_bytes}
use Rattle.hwdb_spec_commands.specs.Told.{AreReadsOf, IsSo, IsSoOfFolder, IsSoOfRules, IsSoOfTexts, IsUnreadAs, Reads, Unlisted}
use Rattle.hwdb_spec_commands.specs.Told.Unlisted.{Misnamed, Unopened}
use Rattle.hwdb_system.specs.Reads.{with_read}
use Rattle.hwdb_spec_commands.specs.declared.refusals.Refusal.{Refusal}
use Rattle.hwdb_spec_commands.specs.declared.unread.Unread.{Unread}
use Rattle.hwdb_spec_commands.specs.declared.unread.Unread.TheVariants as unread

-- what is there
module _ (root made : List ℕ) (w : Reads) (seen : Contents) (fails : List ℕ → Type 0) (agree : AreReadsOf w seen fails) (path : List ℕ) where
  abbrev here : Bool → Option (List ℕ)
  here b = option_map (λ (f : Stored). f.bytes) (if b then Some (database_file made) else seen path)

  abbrev Seen : Contents
  Seen = with_database root made seen

  is_here : bytes_at Seen path ≡ here (bytes_eq path (database_path false root))
  unfolding with_database
  is_here = refl

  long : (U : Type 0) (u : Unread) → bytes_at Seen path ≡ Some made → (u ≡ unread.TooLong) × (max_file < length made) → IsSo Seen U path u
  long U u at h =
      subst (λ (v : Unread). IsSo Seen U path v) (sym h.0)
      (ap is_some at, subst (λ (o : Option (List ℕ)). IfSome o (λ x. max_file < length x)) (sym at) h.1)

  -- what can't be read below is so above
  same_so : (U V : Type 0) (u : Unread) → (U → V) → bytes_at Seen path ≡ bytes_at seen path → IsSo seen U path u → IsSo Seen V path u
  same_so U V unread.TooLong f same so =
      (ap is_some same ∙ so.0, subst (λ (o : Option (List ℕ)). IfSome o (λ x. max_file < length x)) (sym same) so.1)
  same_so U V (unread.Failed cause) f same so = f so
  same_so U V unread.Memory f same so = tt

  given_ok : (told : Result (List ℕ) Unread) (b : Bool) (bytes : List ℕ) → bytes_at Seen path ≡ here b → (told ≡ Ok bytes → (bytes_at seen path ≡ Some bytes) × (length bytes ≤ max_file))
      → (if b then told_bytes made else told) ≡ Ok bytes → (bytes_at Seen path ≡ Some bytes) × (length bytes ≤ max_file)
  given_ok told true bytes at below is = let h = within_ok made bytes (nat_le (length made) max_file) refl is in (at ∙ ap Some h.0, h.1)
  given_ok told false bytes at below is = let h = below is in (at ∙ h.0, h.1)

  given_err : (told : Result (List ℕ) Unread) (b : Bool) (u : Unread) → bytes_at Seen path ≡ here b → (told ≡ Err u → IsSo seen (IsUnreadable fails seen path) path u)
      → (if b then told_bytes made else told) ≡ Err u → IsSo Seen (IsUnreadable fails Seen path) path u
  given_err told true u at below is = long (IsUnreadable fails Seen path) u at (above_err made u (nat_le (length made) max_file) refl is)
  given_err told false u at below is =
      same_so (IsUnreadable fails seen path) (IsUnreadable fails Seen path) u (unreadable at) at (below is)
    where
      unreadable : bytes_at Seen path ≡ bytes_at seen path → IsUnreadable fails seen path → IsUnreadable fails Seen path
      unreadable same (inl none) = inl (same ∙ none)
      unreadable same (inr may) = inr may

  found_ok : (told : Result (Option (List ℕ)) Unread) (b : Bool) (f : Option (List ℕ)) → bytes_at Seen path ≡ here b → (told ≡ Ok f → (bytes_at seen path ≡ f) × IfSome f (λ x. length x ≤ max_file))
      → (if b then present (told_bytes made) else told) ≡ Ok f → (bytes_at Seen path ≡ f) × IfSome f (λ x. length x ≤ max_file)
  found_ok told true f at below is = let h = present_ok made f (nat_le (length made) max_file) refl is in (at ∙ h.0, h.1)
  found_ok told false f at below is = let h = below is in (at ∙ h.0, h.1)

  found_err : (told : Result (Option (List ℕ)) Unread) (b : Bool) (u : Unread) → bytes_at Seen path ≡ here b → (told ≡ Err u → IsSo seen (fails path) path u)
      → (if b then present (told_bytes made) else told) ≡ Err u → IsSo Seen (fails path) path u
  found_err told true u at below is = long (fails path) u at (present_err made u (nat_le (length made) max_file) refl is)
  found_err told false u at below is = same_so (fails path) (fails path) u (λ x. x) at (below is)

-- ---- names
module _ (root made : List ℕ) (w : Reads) (seen : Contents) (fails : List ℕ → Type 0) (agree : AreReadsOf w seen fails) where
  texts_so : (usr : Bool) (below : List ℕ) (u : Unlisted) → IsSoOfTexts seen fails usr below u → IsSoOfTexts (shown root made seen) fails usr below u
  texts_so usr below (Unopened unread.TooLong) long =
      subst (λ (o : Option (List ℕ)). IfSome o (λ bytes. max_file < length bytes)) (sym (same_at root made seen (text_folder usr below) (text_folder_apart root made seen usr below))) long
  texts_so usr below (Unopened (unread.Failed cause)) may = may
  texts_so usr below (Unopened unread.Memory) so = tt
  texts_so usr below (Misnamed name) may = may

  rules_so : (below : List ℕ) (f : Folder) (u : Unlisted) → IsSoOfRules seen fails below f u → IsSoOfRules (shown root made seen) fails below f u
  rules_so below f (Unopened unread.TooLong) long =
      subst (λ (o : Option (List ℕ)). IfSome o (λ bytes. max_file < length bytes)) (sym (same_at root made seen (rules_folder below f) (rules_folder_apart root made seen below f))) long
  rules_so below f (Unopened (unread.Failed cause)) may = may
  rules_so below f (Unopened unread.Memory) so = tt
  rules_so below f (Misnamed name) may = may

  folder_so : (path : List ℕ) (u : Unlisted) → is_database root made seen path ≡ false → IsSoOfFolder (bytes_at seen path ≡ None) fails path u → IsSoOfFolder (bytes_at (shown root made seen) path ≡ None) fails path u
  folder_so path (Unopened unread.TooLong) other none = same_at root made seen path other ∙ none
  folder_so path (Unopened (unread.Failed cause)) other may = may
  folder_so path (Unopened unread.Memory) other so = tt
  folder_so path (Misnamed name) other may = may

  folder_ok : (path : List ℕ) (b : Bool) (found : Option (List (List ℕ))) → is_database root made seen path ≡ b → (if b then Ok None else w.folder path) ≡ Ok found
      → IsFolderAt path (shown root made seen) found
  folder_ok path true found here is =
      let same : None ≡ found = cc in
      subst (IsFolderAt path (shown root made seen)) same (ap is_some (there_at root made seen path here))
  folder_ok path false found other is = folder_over root made seen path found other (agree.folder path found is)

  folder_err : (path : List ℕ) (b : Bool) (u : Unlisted) → is_database root made seen path ≡ b → (if b then Ok None else w.folder path) ≡ Err u
      → IsSoOfFolder (bytes_at (shown root made seen) path ≡ None) fails path u
  folder_err path true u here is = absurd (cc)
  folder_err path false u other is = folder_so path u other (agree.no_folder path u is)

-- what is told over it is what is there
pub read_over : (root made : List ℕ) (w : Reads) (seen : Contents) (fails : List ℕ → Type 0) → AreReadsOf w seen fails → AreReadsOf (with_read root made w) (λ p. with_database root made seen p) (λ p. fails p)
read_over root made w seen fails agree = record {
  input = λ path bytes is. given_ok root made w seen fails agree path (w.input path) (bytes_eq path (database_path false root)) bytes (is_here root made w seen fails agree path) (agree.input path bytes) is;
  no_input = λ path u is. given_err root made w seen fails agree path (w.input path) (bytes_eq path (database_path false root)) u (is_here root made w seen fails agree path) (agree.no_input path u) is;
  text = λ path bytes is. given_ok root made w seen fails agree path (w.text path) (bytes_eq path (database_path false root)) bytes (is_here root made w seen fails agree path) (agree.text path bytes) is;
  no_text = λ path u is. given_err root made w seen fails agree path (w.text path) (bytes_eq path (database_path false root)) u (is_here root made w seen fails agree path) (agree.no_text path u) is;
  database = λ path found is. found_ok root made w seen fails agree path (w.database path) (bytes_eq path (database_path false root)) found (is_here root made w seen fails agree path) (agree.database path found) is;
  no_database = λ path u is. found_err root made w seen fails agree path (w.database path) (bytes_eq path (database_path false root)) u (is_here root made w seen fails agree path) (agree.no_database path u) is;
  names = λ folder names is. names_over root made seen folder names (agree.names folder names is);
  no_names = λ usr below u is. texts_so root made w seen fails agree usr below u (agree.no_names usr below u is);
  folder = λ path found is. folder_ok root made w seen fails agree path (is_database root made seen path) found refl is;
  no_folder = λ path u is. folder_err root made w seen fails agree path (is_database root made seen path) u refl is;
  ignored = λ usr below names is. ignored_over root made seen usr below names (agree.ignored usr below names is);
  no_ignored = λ usr below u is. texts_so root made w seen fails agree usr below (Unopened u) (agree.no_ignored usr below u is);
  rules = λ below f names is. rules_over root made seen below f names (agree.rules below f names is);
  no_rules = λ below f u is. rules_so root made w seen fails agree below f (Unopened u) (agree.no_rules below f u is);
}

-- an error of what was to be there
pub present_as : (answer : Result (List ℕ) Unread) (path : List ℕ) (r : Refusal) → IsUnreadAs answer path r → IsUnreadAs (present answer) path r
present_as answer path r (inl memory) = inl memory
present_as answer path r (inr (u, told, says)) = inr (u, ap present told, says)
