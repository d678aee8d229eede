-- Files and malformed lines, one after another.
use Rattle.std.proofs.Common.{◌≡◌, ◌∙◌, ◌+◌, ◌++◌, ap, append_assoc, take, Bool, false, ℕ, zero, suc, ◌<◌, List, [], ◌∷◌, map, length, refl, sym, arith}

one_more : {X : Type 0} (xs : List X) (i : ℕ) → i < length xs → map (λ (x : X). false) (take (suc i) xs) ≡ map (λ (x : X). false) (take i xs) ++ false ∷ []
one_more [] i h = absurd (omega arith)
one_more (x ∷ xs) zero h = refl
one_more (x ∷ xs) (suc i) h = ap (λ (l : List Bool). false ∷ l) (one_more xs i (omega arith))

-- one malformed line more
pub counted_step : {X : Type 0} (xs : List X) (i : ℕ) (before so_far after : List Bool) → i < length xs → after ≡ so_far ++ false ∷ []
    → so_far ≡ before ++ map (λ (x : X). false) (take i xs) → after ≡ before ++ map (λ (x : X). false) (take (i + 1) xs)
counted_step {X} xs i before so_far after h is done =
    is ∙ ap (λ (l : List Bool). l ++ false ∷ []) done
    ∙ append_assoc before (map (λ (x : X). false) (take i xs)) (false ∷ [])
    ∙ ap (λ (l : List Bool). before ++ l) (sym (one_more xs i h))
    ∙ ap (λ (n : ℕ). before ++ map (λ (x : X). false) (take n xs)) (let e : suc i ≡ i + 1 = omega arith in e)
