-- Lines as they are shown.
use Rattle.std.proofs.Common.{◌≡◌, ℕ, zero, suc, ◌<◌, List, [], ◌∷◌, ◌++◌, take, length, refl, ap, arith}
use Rattle.hwdb_spec_commands.specs.Reports.{spaces}

pub one_more_space : (xs : List ℕ) (i : ℕ) → i < length xs → spaces (take (suc i) xs) ≡ spaces (take i xs) ++ 32 ∷ []
one_more_space [] i h = absurd (omega arith)
one_more_space (x ∷ xs) zero h = refl
one_more_space (x ∷ xs) (suc i) h = ap (λ l. 32 ∷ l) (one_more_space xs i (omega arith))
