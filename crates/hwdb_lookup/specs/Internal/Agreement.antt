-- Two lists of bytes that agree in a stretch.
use Rattle.std.specs.Prelude.{List, ℕ, ◌<◌, ◌≤◌, ◌≡◌, slice_index}

-- from `from` to `to` the two have the same bytes
abbrev pub AgreeIn : (a b : List ℕ) (from to : ℕ) → Type 0
AgreeIn a b from to = (i : ℕ) → from ≤ i → i < to → slice_index a i ≡ slice_index b i
