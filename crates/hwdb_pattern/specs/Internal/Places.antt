-- Our own words: the places of a device's bytes at which a byte passes.
use Rattle.std.specs.Prelude.{Bool, List, Contains, ℕ, false, true, length, replicate, slice_index, ◌≡◌, ◌<◌, ◌≤◌, ◌+◌}
use Rattle.hwdb_pattern.specs.Internal.Tables.{said}

-- so many lengths from the least one on
abbrev pub rest_lengths : (least count : ℕ) → List ℕ
rest_lengths least count = said least (replicate count true)

-- from a place on no byte passes
abbrev pub NonePasses : (ℕ → Bool) → List ℕ → ℕ → Type 0
NonePasses p bytes at = (k : ℕ) → at ≤ k → k < length bytes → p (slice_index bytes k) ≡ false

-- the first place from `at` on whose byte passes
pub record IsNext (p : ℕ → Bool) (bytes : List ℕ) (at place : ℕ) : Type 0 where
  pub from : at ≤ place
  pub within : place < length bytes
  pub here : p (slice_index bytes place) ≡ true
  pub before : (k : ℕ) → at ≤ k → k < place → p (slice_index bytes k) ≡ false

-- the lengths are one more than the places before `at` whose bytes pass, counted from the least one on
pub record Gathers (p : ℕ → Bool) (bytes : List ℕ) (least at : ℕ) (lengths : List ℕ) : Type 0 where
  pub from : (n : ℕ) → Contains lengths n → (k : ℕ) × (n ≡ least + k + 1) × (k < at) × (p (slice_index bytes k) ≡ true)
  pub into : (k : ℕ) → k < at → p (slice_index bytes k) ≡ true → Contains lengths (least + k + 1)
