-- Texts of different lengths.
use Rattle.std.proofs.Common.{◌≡◌, ℕ, Bool, true, false, List, length, refl, ap}
use Rattle.std.specs.Ordering.{nat_cmp}
use Rattle.std.specs.Cmp.Lexicographic.{slice_cmp}
use Rattle.std.proofs.lemmas.Map.Lookups.{exact_bytes}
use Rattle.hwdb_spec.specs.Folders.{same}
use Rattle.hwdb_spec.specs.Lemmas.Orders.{equal_of}

pub differ : (one other : List ℕ) → (length one ≡ length other → ⊥) → false ≡ same one other
differ one other h = go (same one other) refl
  where
    go : (b : Bool) → same one other ≡ b → false ≡ b
    go false e = refl
    go true e = absurd (h (ap length (exact_bytes one other (equal_of (slice_cmp nat_cmp one other) e))))
