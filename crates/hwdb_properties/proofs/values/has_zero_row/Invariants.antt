use Rattle.std.proofs.Common.{◌≡◌}
use Rattle.std.specs.List.{list_any}
use Rattle.hwdb_spec_commands.specs.Properties.{has_zero_row, is_zero_row}
use Rattle.hwdb_text.specs.PiecesLeft.{pieces_left}
use Rattle.hwdb_properties.proofs.values.has_zero_row.Given as goal

abbrev pub invariant-loop-row : goal.invariant-loop-row
invariant-loop-row l = list_any is_zero_row (pieces_left l.row-iterator) ≡ has_zero_row l.text
