-- The first string that begins in some way.
use Rattle.std.proofs.Common.{◌≡◌, ◌∙◌, ap, sym, refl, ℕ, Bool, true, false, None, Some, List, [], ◌∷◌, cond, length, map, arith}
use Rattle.hwdb_spec.specs.Lines.{is_none}
use Rattle.hwdb_spec_commands.specs.DeviceRecords.{begins, first_string}
use Rattle.hwdb_spec_commands.specs.Lookups.{Found}

pub string_here : (start : List ℕ) (f : Found) (more : List Found) → begins start f.text ≡ true → first_string start (f ∷ more) ≡ Some f.text
string_here start f more h = rw h refl

pub string_later : (start : List ℕ) (f : Found) (more : List Found) → begins start f.text ≡ false → first_string start (f ∷ more) ≡ first_string start more
string_later start f more h = rw h refl

pub no_string : (start : List ℕ) {A : Type 0} (of : A → Found) (list : List A) → length list ≡ 0 → first_string start (map of list) ≡ None
no_string start of [] h = refl
no_string start of (x ∷ list) h = absurd (omega arith)

-- ---- records, or the record of any string

pub kept : (made records other : List ℕ) → made ≡ records → is_none made ≡ false → made ≡ cond (is_none records) other records
kept made records other e h = e ∙ sym (ap (λ (c : Bool). cond c other records) (ap is_none (sym e) ∙ h))

pub none_made : (made records other text : List ℕ) → made ≡ records → is_none made ≡ true → text ≡ other → text ≡ cond (is_none records) other records
none_made made records other text e h t = t ∙ sym (ap (λ (c : Bool). cond c other records) (ap is_none (sym e) ∙ h))
