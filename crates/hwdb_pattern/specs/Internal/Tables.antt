-- Our own words: tables over a device, with a truth value for each place.
use Rattle.std.specs.Prelude.{Bool, List, [], ◌∷◌, ℕ, suc, false, true, length, slice_index, slice_index_or, ◌≡◌, ◌<◌, if◌then◌else◌}

-- of the numbers from the first on, those at which the table says so
unfoldable pub said : (first : ℕ) → List Bool → List ℕ
said first [] = []
said first (b ∷ more) = if b then first ∷ said (suc first) more else said (suc first) more

-- whether the table says so at a place, and a byte passes there
abbrev pub passes_at : (ℕ → Bool) → List ℕ → List Bool → ℕ → Bool
passes_at p bytes table k = if slice_index_or table k false then p (slice_index bytes k) else false

-- the places at which the byte passes are kept
pub record IsKept (p : ℕ → Bool) (bytes : List ℕ) (old new : List Bool) : Type 0 where
  pub size : length new ≡ length old
  pub each : (k : ℕ) → k < length old → slice_index_or new k false ≡ passes_at p bytes old k

-- at some of the first places it holds, exactly if the answer is yes
abbrev pub SomeAt : (ℕ → Bool) → ℕ → Bool → Type 0
SomeAt p n true = (k : ℕ) × (k < n) × (p k ≡ true)
SomeAt p n false = (k : ℕ) → k < n → p k ≡ false
