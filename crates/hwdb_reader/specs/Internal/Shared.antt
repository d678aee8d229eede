-- Bytes that two databases share.
use Rattle.std.specs.Prelude.{List, ℕ, get_or, ◌≡◌, ◌<◌, ◌+◌}
use Rattle.hwdb_spec.specs.Format.{text_at}

-- so many bytes are the same, from a place of each on
abbrev pub Agree : (a b : List ℕ) → (x y n : ℕ) → Type 0
Agree a b x y n = (k : ℕ) → k < n → get_or a (x + k) 0 ≡ get_or b (y + k) 0

-- so many places, from one of each on, have the same strings
abbrev pub AreShared : (a b : List ℕ) → (x y n : ℕ) → Type 0
AreShared a b x y n = (k : ℕ) → k < n → text_at a (x + k) ≡ text_at b (y + k)
