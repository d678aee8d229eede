-- The longest run at the front of lines that pass a test, line by line.
use Rattle.std.proofs.Common.{◌≡◌, ◌+◌, ℕ, suc, Bool, true, false, cond, List, [], ◌∷◌, take, refl, ap, arith}
use Rattle.std.specs.List.{take_while, prefix_len}
use Rattle.hwdb_spec.specs.Lines.{Line}

one_more : (n : ℕ) (l : Line) (more : List Line) → take (1 + n) (l ∷ more) ≡ l ∷ take n more
one_more n l more = let e : 1 + n ≡ suc n = omega arith in ap (λ k. take k (l ∷ more)) e

pub run_cons : (test : Line → Bool) (l : Line) (more : List Line) → take_while test (l ∷ more) ≡ cond (test l) (l ∷ take_while test more) []
run_cons test l more =
    elim (test l) as (λ b. take (cond b (1 + prefix_len test more) 0) (l ∷ more) ≡ cond b (l ∷ take (prefix_len test more) more) []) [
      | true ↦ one_more (prefix_len test more) l more
      | false ↦ refl
    ]
