-- Our own words: how far a search has come, as what is left to match from a place in the pattern and
-- in the device.
use Rattle.std.specs.Prelude.{Bool, List, None, false, true, slice_index, slice_index_or, ℕ, ◌≡◌, ◌≢◌, ◌<◌, ◌≤◌, drop, ◌∷◌, length}
use Rattle.hwdb_spec.specs.Patterns.{Matches, bracket_at, items_from, literal, star, token_at, tokens}

-- no `]` comes from `close` on; `]` is 93
abbrev pub NoneCloses : List ℕ → ℕ → Type 0
NoneCloses pattern close = (k : ℕ) → close ≤ k → slice_index pattern k ≢ 93

-- at each place for which the table says so, no closed bracket begins
abbrev pub AreOpen : List ℕ → List Bool → Type 0
AreOpen pattern opens =
    (k : ℕ) → k < length opens → slice_index_or opens k false ≡ true → bracket_at (drop k pattern) ≡ None

-- at each place for which the table says so, no `]` closes the items from there on
abbrev pub NeverClose : List ℕ → List Bool → Type 0
NeverClose text table = (k : ℕ) → slice_index_or table k false ≡ true → items_from false 0 (drop k text) ≡ None

-- each of the first bytes, so many of them, is a token that means itself
abbrev pub ArePlain : List ℕ → ℕ → Type 0
ArePlain pattern n = (k : ℕ) → k < n → token_at (drop k pattern) ≡ literal (slice_index pattern k)

-- The tokens before `at` are no stars and take the first `met` bytes of the device.
pub record Reaches (pattern device : List ℕ) (at met : ℕ) : Type 0 where
  pub forth : Matches (tokens pattern) device → Matches (tokens (drop at pattern)) (drop met device)
  pub back : Matches (tokens (drop at pattern)) (drop met device) → Matches (tokens pattern) device
  pub later : Matches (star ∷ tokens pattern) device → Matches (star ∷ tokens (drop at pattern)) (drop met device)

-- The pattern matches the device exactly if two things hold. At least `met` bytes are there. A star and the tokens from
-- `at` match what comes after them.
pub record Remains (pattern device : List ℕ) (at met : ℕ) : Type 0 where
  pub forth : Matches (tokens pattern) device → (met ≤ length device) × Matches (star ∷ tokens (drop at pattern)) (drop met device)
  pub back : met ≤ length device → Matches (star ∷ tokens (drop at pattern)) (drop met device) → Matches (tokens pattern) device
