-- The table of a path's open nodes, as a list.
use Rattle.std.specs.Prelude.{List, ℕ, zero, suc, [], ◌∷◌, slice_index}

-- the first n nodes of a table, the last first: the offset of each, and how many of its children were entered
unfoldable pub open_nodes : (offsets done : List ℕ) (n : ℕ) → List (ℕ × ℕ)
open_nodes offsets done zero = []
open_nodes offsets done (suc n) = (slice_index offsets n, slice_index done n) ∷ open_nodes offsets done n
