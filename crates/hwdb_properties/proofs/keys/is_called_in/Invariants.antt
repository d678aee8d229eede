use Rattle.std.proofs.Common.{◌≡◌}
use Rattle.std.specs.List.{list_any}
use Rattle.hwdb_spec.specs.Lines.{is, pieces}
use Rattle.hwdb_spec_commands.specs.KeysAsked.{is_called_so}
use Rattle.hwdb_text.specs.PiecesLeft.{lines_left}
use Rattle.hwdb_properties.proofs.keys.is_called_in.Given as goal

abbrev pub invariant-loop-row : goal.invariant-loop-row
invariant-loop-row l = list_any (is_called_so l.part l.key) (lines_left l.row-iterator) ≡ list_any (is_called_so l.part l.key) (pieces (is 10) l.table)
