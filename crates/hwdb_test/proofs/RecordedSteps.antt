-- The text of a recorded test file, piece by piece.
use Rattle.std.proofs.Common.{◌≡◌, ◌∙◌, ◌<◌, ◌+◌, ap, sym, ℕ, suc, List, [], ◌∷◌, ◌++◌, take, map, length, get_or, flat_map, append_assoc, append-nil, arith}
use Rattle.hwdb_spec.specs.Lemmas.Lists.{gathered_more, mapped_more}
use Rattle.hwdb_spec_commands.specs.Recorded.{ended}
use Rattle.hwdb_test.proofs.RecordedLemmas.{flat_append}

-- one more of what was gone through
pub lines_step : {X Y : Type 0} (g : X → Y) (f : Y → List (List ℕ)) (xs : List X) (i : ℕ) (x : X) (before now after : List ℕ) → i < length xs → x ≡ get_or xs i x
    → now ≡ before ++ flat_map ended (flat_map f (map g (take i xs))) → after ≡ now ++ flat_map ended (f (g x)) → after ≡ before ++ flat_map ended (flat_map f (map g (take (i + 1) xs)))
lines_step {Y = Y} g f xs i x before now after lt is so_far grown =
    let done = map g (take i xs) in
    let e : suc i ≡ i + 1 = omega arith in
    grown ∙ ap (λ (l : List ℕ). l ++ flat_map ended (f (g x))) so_far
    ∙ append_assoc before (flat_map ended (flat_map f done)) (flat_map ended (f (g x)))
    ∙ ap (λ (l : List ℕ). before ++ l) (sym (flat_append ended (flat_map f done) (f (g x))))
    ∙ ap (λ (l : List (List ℕ)). before ++ flat_map ended l) (sym (gathered_more f done (g x)))
    ∙ ap (λ (l : List Y). before ++ flat_map ended (flat_map f l)) (sym (mapped_more g xs i x lt is))
    ∙ ap (λ (k : ℕ). before ++ flat_map ended (flat_map f (map g (take k xs)))) e

-- two lines
pub two_lines : (old one two a b : List ℕ) → one ≡ old ++ ended a → two ≡ one ++ ended b → two ≡ old ++ flat_map ended (a ∷ b ∷ [])
two_lines old one two a b first second =
    second ∙ ap (λ (l : List ℕ). l ++ ended b) first ∙ append_assoc old (ended a) (ended b)
    ∙ ap (λ (l : List ℕ). old ++ (ended a ++ l)) (sym (append-nil (ended b)))

-- a line, some lines, and a line
pub lines_between : (old one two three a b : List ℕ) (ls : List (List ℕ)) → one ≡ old ++ ended a → two ≡ one ++ flat_map ended ls → three ≡ two ++ ended b
    → three ≡ old ++ flat_map ended (a ∷ (ls ++ b ∷ []))
lines_between old one two three a b ls first between last =
    let some = flat_map ended ls in
    last ∙ ap (λ (l : List ℕ). l ++ ended b) (between ∙ ap (λ (l : List ℕ). l ++ some) first)
    ∙ append_assoc (old ++ ended a) some (ended b)
    ∙ append_assoc old (ended a) (some ++ ended b)
    ∙ ap (λ (l : List ℕ). old ++ (ended a ++ (some ++ l))) (sym (append-nil (ended b)))
    ∙ ap (λ (l : List ℕ). old ++ (ended a ++ l)) (sym (flat_append ended ls (b ∷ [])))
