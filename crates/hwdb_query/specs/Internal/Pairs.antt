-- A sorted list of keys and values, into which answers are put.
use Rattle.std.specs.Prelude.{List, [], ℕ, ◌∷◌}
use Rattle.std.specs.BTreeMap.{insert_entry}
use Rattle.hwdb_spec.specs.Assignment.{Assignment, text_cmp}

-- a sorted list after some answers were put into it, each in place of what stood at its key
unfoldable pub put_values : List (List ℕ × List ℕ) → List Assignment → List (List ℕ × List ℕ)
put_values kept [] = kept
put_values kept (f ∷ more) = put_values (insert_entry text_cmp kept f.position.key f.value) more
