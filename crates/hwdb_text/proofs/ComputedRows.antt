-- The definitions at worked rows, computed.
use Rattle.std.proofs.Common.{refl}
use Rattle.hwdb_spec.specs.Assignment.{put, ascending}
use Rattle.hwdb_spec.specs.Lines.{pieces, trimmed, numbered}
use Rattle.hwdb_spec.specs.Records.{behind, first_section, sections_from}
use Rattle.hwdb_text.specs.Rows.{FaultRows, AssignmentRows, ChoiceRows, PathRows}

pub fault_rows_hold : FaultRows
unfolding pieces trimmed numbered behind first_section sections_from
fault_rows_hold = refl

pub assignment_rows_hold : AssignmentRows
unfolding pieces trimmed numbered behind first_section sections_from
assignment_rows_hold = refl

pub choice_rows_hold : ChoiceRows
unfolding put ascending
choice_rows_hold = refl

pub path_rows_hold : PathRows
path_rows_hold = refl
