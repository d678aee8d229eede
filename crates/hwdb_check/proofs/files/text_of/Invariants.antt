use Rattle.std.proofs.Common.{◌≡◌, take}
use Rattle.std.specs.Prelude.{flat_map}
use Rattle.hwdb_spec_commands.specs.Findings.{told}
use Rattle.hwdb_check.specs.Found.{finds}
use Rattle.hwdb_check.proofs.files.text_of.Given as goal

abbrev pub invariant-loop-one : goal.invariant-loop-one
invariant-loop-one l = l.text.items ≡ flat_map (told l.format) (finds (take l.one-index l.found))
