use Rattle.std.proofs.Common.{◌≡◌, find, []}
use Rattle.std.specs.Option.{unwrap_or}
use Rattle.hwdb_spec_commands.specs.Properties.{first_row}
use Rattle.hwdb_text.specs.PiecesLeft.{lines_left}
use Rattle.hwdb_properties.specs.Internal.{passes}
use Rattle.hwdb_properties.proofs.rows.first_row.Given as goal

abbrev pub invariant-loop-row : goal.invariant-loop-row
invariant-loop-row l = unwrap_or (find (passes l.likeness l.name) (lines_left l.row-iterator)) [] ≡ first_row (passes l.likeness l.name) l.table
