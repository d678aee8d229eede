-- Live nodes among the children of a node.
use Rattle.std.specs.Prelude.{List, [], ℕ, ◌++◌, ◌+◌, ◌∷◌}
use Rattle.hwdb_spec.specs.Tree.{Tree, live_under}
use Rattle.hwdb_reader.specs.Views.{node_count}

abbrev pub live_in : List ℕ → List ℕ → List (ℕ × Tree) → ℕ
live_in device path [] = 0
live_in device path (k ∷ kids) = live_under device (path ++ k.0 ∷ []) k.1 + live_in device path kids

abbrev pub nodes_in : List (ℕ × Tree) → ℕ
nodes_in [] = 0
nodes_in (k ∷ kids) = node_count k.1 + nodes_in kids
