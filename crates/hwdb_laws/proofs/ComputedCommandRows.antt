-- The rows, computed.
use Rattle.std.proofs.Common.{◌≡◌, ◌∷◌, [], List, ℕ, ap, arith, codes, false, inl, inr, refl, true}
use Rattle.hwdb_spec.specs.Folders.{same}
use Rattle.hwdb_spec_commands.specs.CommandLine.{count_rule, node_rule}
use Rattle.hwdb_spec_commands.specs.Jobs.{AreGiven, IsOneOf}
use Rattle.hwdb_laws.specs.CommandRows.{CommandRows, row_with, scan_alone}

other_word : IsOneOf (scan_alone ∷ []) (codes "keys") (row_with (codes "DEVICE") (codes "f") ∷ []) → ⊥
other_word (inl h) = let no : false ≡ true = ap (λ (t : List ℕ). same t (codes "scan")) h.0 in cc
other_word (inr h) = h

no_device : IsOneOf (scan_alone ∷ []) (codes "scan") [] → ⊥
no_device (inl h) = let no : false ≡ true = h.1.0 in cc
no_device (inr h) = h

no_device_after : AreGiven (count_rule ∷ node_rule ∷ []) [] → ⊥
no_device_after h = let no : false ≡ true = h.2.0 in cc

no_number : AreGiven (count_rule ∷ []) (row_with (codes "count") (codes "x") ∷ []) → ⊥
no_number h = absurd (omega (arith, h.1.0.1.0))

pub command_rows : CommandRows
command_rows = (λ h. h, other_word, no_device, inr (inl (refl, (refl, tt, tt))), no_device_after, no_number, (tt, tt, tt), (λ h. h), tt)
