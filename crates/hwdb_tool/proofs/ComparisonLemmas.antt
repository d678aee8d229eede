-- What `diff` reads, and its errors.
use Rattle.std.proofs.Common.{◌≡◌, ◌==◌, ◌∷◌, ap, arith, eqb-true, refl, sym, true, ℕ, false, length, List, [], map, None, Some, flat_map}
use Rattle.hwdb_check.specs.Checks.{source_of}
use Rattle.hwdb_check.specs.declared.files.TextFile.{TextFile}
use Rattle.hwdb_spec_commands.specs.Comparisons.{devices_named}
use Rattle.hwdb_spec.specs.Folders.{Source}
use Rattle.hwdb_spec.specs.Texts.{devices_of}

-- the devices of some files
pub all_named : (files : List TextFile) (devices : List (List ℕ)) → (length files == 0) ≡ false → devices ≡ flat_map (λ (f : Source). devices_of f.bytes) (map source_of files)
    → devices_named (map source_of files) ≡ Some devices
all_named [] devices some are = cc
all_named (f ∷ more) devices some are = ap (λ (ds : List (List ℕ)). Some ds) (sym are)

pub none_named : (files : List TextFile) → (length files == 0) ≡ true → devices_named (map source_of files) ≡ None
none_named [] none = refl
none_named (f ∷ more) none = absurd (let e = eqb-true (length (f ∷ more)) 0 none in omega (arith, e))
