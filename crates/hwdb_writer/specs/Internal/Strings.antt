-- A string put among strings, as the writer's order does.
use Rattle.std.specs.Prelude.{List, ℕ, [], ◌∷◌}
use Rattle.std.specs.FinMap.Entries.{by_order}
use Rattle.hwdb_spec.specs.Assignment.{text_cmp}

-- a string among strings that ascend, each once
unfoldable pub add_string : List ℕ → List (List ℕ) → List (List ℕ)
add_string s [] = s ∷ []
add_string s (t ∷ ts) = by_order (text_cmp s t) (s ∷ t ∷ ts) (t ∷ ts) (t ∷ add_string s ts)
