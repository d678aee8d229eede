-- What a tree assigns, by the parts of its root.
use Rattle.std.proofs.Common.{◌≡◌, ℕ, zero, suc, ◌<◌, List, [], ◌∷◌, length, arith, Some, slice_get}
use Rattle.hwdb_spec.specs.Tree.{Tree}

pub kid_within : (kids : List (ℕ × Tree)) (i : ℕ) (k : ℕ × Tree) → slice_get kids i ≡ Some k → i < length kids
kid_within [] i k h = absurd (cc)
kid_within (j ∷ kids) zero k h = omega arith
kid_within (j ∷ kids) (suc i) k h = let rest = kid_within kids i k h in omega (arith, rest)
