-- The definitions at worked rows, computed.
use Rattle.std.proofs.Common.{refl}
use Rattle.std.specs.Fmt.{digits}
use Rattle.hwdb_spec.specs.Lines.{pieces, trimmed, numbered}
use Rattle.hwdb_spec.specs.Records.{behind, first_section, sections_from}
use Rattle.hwdb_spec.specs.Patterns.{token_at, tokens_from, some_ending, byte_then, piece_then, matches}
use Rattle.hwdb_spec.specs.Assignment.{ascending, put, put_all, position_cmp, assignment_cmp}
use Rattle.hwdb_spec.specs.Answers.{is_after, last_value, effective_of, last_of_each, last_matching, last_assignments}
use Rattle.hwdb_spec.specs.Folders.{first_of}
use Rattle.hwdb_spec.specs.Explanations.{explained}
use Rattle.hwdb_spec.specs.Visible.{visible_after}
use Rattle.std.specs.Str.{is_utf8, chars}
use Rattle.std.specs.Char.{encode_utf8}
use Rattle.hwdb_query.specs.Rows.{LastRows, EffectiveRow, ExplainedRow}

pub last_rows_hold : LastRows
unfolding ascending pieces trimmed numbered behind first_section sections_from token_at tokens_from some_ending byte_then piece_then matches put put_all position_cmp assignment_cmp is_after first_of last_of_each last_matching last_assignments
last_rows_hold = refl

pub effective_row_holds : EffectiveRow
unfolding ascending pieces trimmed numbered behind first_section sections_from token_at tokens_from some_ending byte_then piece_then matches put put_all position_cmp assignment_cmp is_after first_of last_of_each last_matching last_assignments last_value effective_of
effective_row_holds = refl

pub explained_row_holds : ExplainedRow
unfolding ascending pieces trimmed numbered behind first_section sections_from token_at tokens_from some_ending byte_then piece_then matches put put_all position_cmp assignment_cmp is_after first_of last_of_each last_matching last_assignments explained digits visible_after is_utf8 chars encode_utf8
explained_row_holds = refl
