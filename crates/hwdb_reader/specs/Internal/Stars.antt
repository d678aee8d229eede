-- Where stars are known to be.
use Rattle.std.specs.Prelude.{List, ℕ, slice_index, ◌≡◌, ◌<◌, ◌≤◌}

-- all bytes from one place on, before another one, are stars
abbrev pub AreStars : List ℕ → (from end : ℕ) → Type 0
AreStars b from end = (k : ℕ) → from ≤ k → k < end → slice_index b k ≡ 42
