use Rattle.std.proofs.Common.{◌≡◌, []}
use Rattle.hwdb_spec_commands.specs.DeviceTree.{last_after}
use Rattle.hwdb_spec.specs.Lines.{is, pieces}
use Rattle.hwdb_text.specs.PiecesLeft.{pieces_left}
use Rattle.hwdb_sysfs.proofs.paths.last_name.Given as goal

abbrev pub invariant-loop-name : goal.invariant-loop-name
invariant-loop-name l = last_after l.last (pieces_left l.name-iterator) ≡ last_after [] (pieces (is 47) l.path)
