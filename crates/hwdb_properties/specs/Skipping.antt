-- Rows of a table by their first byte.
use Rattle.std.specs.Prelude.{◌≡◌, ◌+◌, ◌-◌, ◌<◌, ◌≤◌, ◌⊎◌, ◌||◌, Bool, false, ℕ, List, drop, if◌then◌else◌, length, slice_index, suc}
use Rattle.hwdb_spec.specs.Lines.{begins_with}
use Rattle.hwdb_spec.specs.Patterns.{in_span}

-- whether a text begins with one of two bytes
abbrev pub begins : (one other : ℕ) → List ℕ → Bool
begins one other text = begins_with one text || begins_with other text

-- a test that no text passes that begins otherwise
abbrev pub IsApart : (one other : ℕ) → (List ℕ → Bool) → Type 0
IsApart one other test = (row : List ℕ) → begins one other row ≡ false → test row ≡ false

-- A row of a table begins there, after the first one, or the table ends; and no row before it begins with a byte, but perhaps the first one.
pub record IsNext (first : ℕ) (table : List ℕ) (at : ℕ) : Type 0 where
  pub within : at ≤ length table
  pub starts : (length table ≤ at) ⊎ (slice_index table (at - 1) ≡ 10)
  pub none : (j : ℕ) → j + 1 < at → slice_index table j ≡ 10 → begins_with first (drop (suc j) table) ≡ false

-- a small letter of ASCII in upper case, any other byte as it is
abbrev pub upper : ℕ → ℕ
upper b = if in_span b (97, 122) then b - 32 else b
