use Rattle.std.proofs.Common.{◌≡◌, drop}
use Rattle.hwdb_spec_commands.specs.Patches.{first_mend}
use Rattle.hwdb_check.specs.Found.{finds}
use Rattle.hwdb_check.proofs.edits.first_mend.Given as goal

abbrev pub invariant-loop-one : goal.invariant-loop-one
invariant-loop-one l = first_mend (finds l.found) ≡ first_mend (finds (drop l.one-index l.found))
