use Rattle.std.proofs.Common.{◌≡◌, map, take}
use Rattle.hwdb_spec_commands.specs.Patches.{at_number}
use Rattle.hwdb_check.specs.Found.{finds}
use Rattle.hwdb_check.proofs.sure.at_numbers.Given as goal

abbrev pub invariant-loop-one : goal.invariant-loop-one
invariant-loop-one l = finds l.all.items ≡ map at_number (finds (take l.one-index l.found))
