-- What a record says, and the first of some assignments that its record doesn't say.
use Rattle.std.proofs.Common.{◌≡◌, ◌∙◌, ◌<◌, ◌≤◌, ap, sym, refl, true, false, Bool, ℕ, List, ◌∷◌, length, Some, if◌then◌else◌, nat_le}
use Rattle.std.proofs.lemmas.Bool.{le-leb, lt-leb}
use Rattle.hwdb_spec.specs.Assignment.{Assignment}
use Rattle.hwdb_spec.specs.declared.Fault.{Fault}
use Rattle.hwdb_spec_commands.specs.Dump.{record_text, says, is_alone, is_said, first_unsaid, origin_of}
use Rattle.hwdb_spec.specs.Folders.{max_lines}
use Rattle.hwdb_spec.specs.Lines.{lines, is_none}
use Rattle.hwdb_spec.specs.Records.{assignments, faults}

fits : (text own : List ℕ) → text ≡ own → length (lines text) ≤ max_lines → nat_le (length (lines own)) max_lines ≡ true
fits text own is few = ap (λ t. nat_le (length (lines t)) max_lines) (sym is) ∙ le-leb (length (lines text)) max_lines few

-- what was read of a record
pub said_is : (f : Assignment) (text : List ℕ) (fs : List Fault) (all : List Assignment) → text ≡ record_text f → length (lines text) ≤ max_lines
    → fs ≡ faults text → all ≡ assignments (origin_of f) text → (if is_none fs then is_alone f all else false) ≡ is_said f
unfolding is_said
said_is f text fs all is few a b =
    ap (λ (g : List Fault × List Assignment). if is_none g.0 then is_alone f g.1 else false) (λ i. (a i, b i))
    ∙ ap (λ t. says t f) is
    ∙ sym (ap (λ (c : Bool). if c then says (record_text f) f else false) (fits text (record_text f) is few))

-- a record with more lines than a file may have
pub unsaid_is : (f : Assignment) (text : List ℕ) → text ≡ record_text f → max_lines < length (lines text) → false ≡ is_said f
unfolding is_said
unsaid_is f text is many =
    sym (ap (λ (c : Bool). if c then says (record_text f) f else false)
    (ap (λ t. nat_le (length (lines t)) max_lines) (sym is) ∙ lt-leb (length (lines text)) max_lines many))

-- the first is said: what is unsaid first comes after it
pub said_first : (f : Assignment) (more : List Assignment) → is_said f ≡ true → first_unsaid (f ∷ more) ≡ first_unsaid more
said_first f more h = rw h refl

pub unsaid_first : (f : Assignment) (more : List Assignment) → is_said f ≡ false → first_unsaid (f ∷ more) ≡ Some f
unsaid_first f more h = rw h refl
