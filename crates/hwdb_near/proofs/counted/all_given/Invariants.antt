use Rattle.std.proofs.Common.{◌≡◌, map, take}
use Rattle.std.specs.Prelude.{flat_map}
use Rattle.hwdb_compile.specs.Internal.Reading.{assignments_in}
use Rattle.hwdb_near.specs.Views.{assignment_of}
use Rattle.hwdb_near.proofs.counted.all_given.Given as goal

abbrev pub invariant-loop-file : goal.invariant-loop-file
invariant-loop-file l = map assignment_of l.found.items ≡ flat_map assignments_in (take l.file-index l.files)
