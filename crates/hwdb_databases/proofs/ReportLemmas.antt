-- The parts of a report.
use Rattle.std.proofs.Common.{◌≡◌, ◌∙◌, ◌++◌, [], List, ℕ, ap, append_assoc, refl, subst, sym}
use Rattle.hwdb_spec.specs.Format.{IsDatabase}
use Rattle.hwdb_spec_commands.specs.Status.{Amount, IsAmountOf, amount_of}
use Rattle.hwdb_spec_commands.specs.Summary.{summary_of}
use Rattle.hwdb_spec.specs.Tree.{Tree}
use Rattle.std.specs.Prelude.{length}

-- three pairs of parts and one more, one after another
pub seven_parts : (a b c d e f g t0 t1 t2 t3 t4 : List ℕ) → t0 ≡ [] → t1 ≡ t0 ++ (a ++ b) → t2 ≡ t1 ++ (c ++ d) → t3 ≡ t2 ++ (e ++ f) → t4 ≡ t3 ++ g
    → t4 ≡ a ++ (b ++ (c ++ (d ++ (e ++ (f ++ g)))))
seven_parts a b c d e f g t0 t1 t2 t3 t4 none one two three four =
    four
    ∙ ap (λ (t : List ℕ). t ++ g) (three ∙ ap (λ (t : List ℕ). t ++ (e ++ f)) (two ∙ ap (λ (t : List ℕ). t ++ (c ++ d)) (one ∙ ap (λ (t : List ℕ). t ++ (a ++ b)) none)))
    ∙ append_assoc ((a ++ b) ++ (c ++ d)) (e ++ f) g
    ∙ append_assoc (a ++ b) (c ++ d) ((e ++ f) ++ g)
    ∙ append_assoc a b ((c ++ d) ++ ((e ++ f) ++ g))
    ∙ ap (λ (t : List ℕ). a ++ (b ++ t)) (append_assoc c d ((e ++ f) ++ g) ∙ ap (λ (t : List ℕ). c ++ (d ++ t)) (append_assoc e f g))

-- three counts, two commas between them
pub three_counts : (t0 t1 t2 t3 comma a b c : List ℕ) → t1 ≡ t0 ++ (a ++ comma) → t2 ≡ t1 ++ (b ++ comma) → t3 ≡ t2 ++ c → t3 ≡ t0 ++ (a ++ (comma ++ (b ++ (comma ++ c))))
three_counts t0 t1 t2 t3 comma a b c one two three =
    three
    ∙ ap (λ (t : List ℕ). t ++ c) (two ∙ ap (λ (t : List ℕ). t ++ (b ++ comma)) one)
    ∙ append_assoc (t0 ++ (a ++ comma)) (b ++ comma) c
    ∙ append_assoc t0 (a ++ comma) ((b ++ comma) ++ c)
    ∙ ap (λ (t : List ℕ). t0 ++ t) (append_assoc a comma ((b ++ comma) ++ c) ∙ ap (λ (t : List ℕ). a ++ (comma ++ t)) (append_assoc b comma c))

-- how much is in a database
pub counted_amount : (bytes : List ℕ) (t : Tree) (amount : Amount) → IsDatabase bytes t → amount ≡ amount_of (summary_of (length bytes) t) → IsAmountOf bytes amount
counted_amount bytes t amount is same = subst (IsAmountOf bytes) (sym same) (t, is, refl)
