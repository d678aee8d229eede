-- The path of a device or a parent.
use Rattle.std.proofs.Common.{◌≡◌, ◌<◌, refl, ℕ, zero, suc, List, [], ◌∷◌, arith, get_or, length, map}
use Rattle.hwdb_spec_commands.specs.DeviceTexts.{path_of}
use Rattle.hwdb_sysfs.specs.Views.{ancestor_of}
use Rattle.hwdb_sysfs.specs.declared.device.Ancestor.{Ancestor as Read}

pub path_here : (chain : List Read) (i : ℕ) (none : Read) → i < length chain → (get_or chain i none).path.items ≡ get_or (map path_of (map ancestor_of chain)) i []
path_here [] i none h = absurd (omega (arith, h))
path_here (y ∷ ys) zero none h = refl
path_here (y ∷ ys) (suc i) none h = path_here ys i none (omega (arith, h))
