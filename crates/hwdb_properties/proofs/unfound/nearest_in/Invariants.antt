use Rattle.std.proofs.Common.{◌≡◌, map}
use Rattle.hwdb_spec_commands.specs.DeviceTree.{nearest_of}
use Rattle.hwdb_spec_commands.specs.KeysAsked.{names_of}
use Rattle.hwdb_spec_commands.specs.Properties.{word}
use Rattle.hwdb_text.specs.PiecesLeft.{lines_left}
use Rattle.hwdb_properties.proofs.unfound.nearest_in.Given as goal

abbrev pub invariant-loop-row : goal.invariant-loop-row
invariant-loop-row l = nearest_of l.wanted l.nearest.items (map word (lines_left l.row-iterator)) ≡ nearest_of l.wanted l.fn.before.items (names_of l.table)
