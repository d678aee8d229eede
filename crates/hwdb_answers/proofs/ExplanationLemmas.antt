-- What is overridden, one answer after another.
use Rattle.std.proofs.Common.{◌≡◌, ◌∙◌, ap, sym, ℕ, zero, suc, ◌<◌, List, [], ◌∷◌, ◌++◌, map, take, length, get_or, append_assoc, arith}
use Rattle.std.specs.Prelude.{flat_map}
use Rattle.std.proofs.lemmas.List.{append-nil}
use Rattle.hwdb_query.specs.Views.{assignment_of_answer}
use Rattle.hwdb_query.specs.declared.answer.StoredAssignment.{StoredAssignment}
use Rattle.hwdb_spec.specs.Explanations.{overridden_text}

abbrev pub text_of : List StoredAssignment → List ℕ
text_of answers = flat_map overridden_text (map assignment_of_answer answers)

pub text_more : (xs : List StoredAssignment) (i : ℕ) (x : StoredAssignment) → i < length xs → x ≡ get_or xs i x → text_of (take (suc i) xs) ≡ text_of (take i xs) ++ overridden_text (assignment_of_answer x)
text_more [] i x h is = absurd (omega (arith, h))
text_more (y ∷ ys) zero x h is = append-nil (overridden_text (assignment_of_answer y)) ∙ ap (λ a. overridden_text (assignment_of_answer a)) (sym is)
text_more (y ∷ ys) (suc i) x h is =
    let less : i < length ys = omega (arith, h) in
    ap (λ l. overridden_text (assignment_of_answer y) ++ l) (text_more ys i x less is)
    ∙ sym (append_assoc (overridden_text (assignment_of_answer y)) (text_of (take i ys)) (overridden_text (assignment_of_answer x)))

-- after a text
pub behind_more : (text before after : List ℕ) (xs : List StoredAssignment) (i : ℕ) (x : StoredAssignment) → i < length xs → x ≡ get_or xs i x
    → before ≡ text ++ text_of (take i xs) → after ≡ before ++ overridden_text (assignment_of_answer x) → after ≡ text ++ text_of (take (suc i) xs)
behind_more text before after xs i x h is so_far pushed =
    pushed ∙ ap (λ l. l ++ overridden_text (assignment_of_answer x)) so_far
    ∙ append_assoc text (text_of (take i xs)) (overridden_text (assignment_of_answer x))
    ∙ ap (λ l. text ++ l) (sym (text_more xs i x h is))
