-- The rows, computed.
use Rattle.hex.specs.Hex.{encode_with}
use Rattle.hwdb_spec_commands.specs.Findings.{told_fault}
use Rattle.hwdb_laws.specs.WantedRows.{HeldRows, RecordRows, SaidRows, StatusRows, TestRows, UnsaidRows, WhyRows}
use Rattle.hwdb_spec.specs.Answers.{effective_of, last_of_each, last_value}
use Rattle.hwdb_spec.specs.Assignment.{ascending, assignment_cmp, position_cmp, put, put_all}
use Rattle.hwdb_spec.specs.Explanations.{explained}
use Rattle.hwdb_spec.specs.Lines.{numbered, pieces, trimmed}
use Rattle.hwdb_spec.specs.Patterns.{bracket_at, byte_then, classes, item_at, items_from, matches, piece_then, some_ending, token_at, tokens_from}
use Rattle.hwdb_spec.specs.Records.{behind, first_section, sections_from}
use Rattle.hwdb_spec.specs.Tree.{answers, values_below, values_under}
use Rattle.hwdb_spec.specs.Visible.{visible_after}
use Rattle.hwdb_spec_commands.specs.Wanted.{records_from}
use Rattle.std.proofs.Common.{refl}
use Rattle.std.specs.Char.{encode_utf8}
use Rattle.std.specs.Fmt.{digits}
use Rattle.std.specs.Str.{chars, is_utf8}

pub held_rows : HeldRows
unfolding pieces numbered trimmed first_section sections_from behind records_from answers effective_of explained last_of_each last_value values_under values_below ascending put put_all assignment_cmp position_cmp matches some_ending byte_then piece_then tokens_from token_at item_at items_from bracket_at classes visible_after is_utf8 chars encode_utf8 digits encode_with told_fault
held_rows = refl

pub status_rows : StatusRows
unfolding pieces numbered trimmed first_section sections_from behind records_from answers effective_of explained last_of_each last_value values_under values_below ascending put put_all assignment_cmp position_cmp matches some_ending byte_then piece_then tokens_from token_at item_at items_from bracket_at classes visible_after is_utf8 chars encode_utf8 digits encode_with told_fault
status_rows = refl

pub test_rows : TestRows
unfolding pieces numbered trimmed first_section sections_from behind records_from answers effective_of explained last_of_each last_value values_under values_below ascending put put_all assignment_cmp position_cmp matches some_ending byte_then piece_then tokens_from token_at item_at items_from bracket_at classes visible_after is_utf8 chars encode_utf8 digits encode_with told_fault
test_rows = refl

pub record_rows : RecordRows
unfolding pieces numbered trimmed first_section sections_from behind records_from answers effective_of explained last_of_each last_value values_under values_below ascending put put_all assignment_cmp position_cmp matches some_ending byte_then piece_then tokens_from token_at item_at items_from bracket_at classes visible_after is_utf8 chars encode_utf8 digits encode_with told_fault
record_rows = refl

pub said_rows : SaidRows
unfolding pieces numbered trimmed first_section sections_from behind records_from answers effective_of explained last_of_each last_value values_under values_below ascending put put_all assignment_cmp position_cmp matches some_ending byte_then piece_then tokens_from token_at item_at items_from bracket_at classes visible_after is_utf8 chars encode_utf8 digits encode_with told_fault
said_rows = refl

pub unsaid_rows : UnsaidRows
unfolding pieces numbered trimmed first_section sections_from behind records_from answers effective_of explained last_of_each last_value values_under values_below ascending put put_all assignment_cmp position_cmp matches some_ending byte_then piece_then tokens_from token_at item_at items_from bracket_at classes visible_after is_utf8 chars encode_utf8 digits encode_with told_fault
unsaid_rows = refl

pub why_rows : WhyRows
unfolding trimmed
why_rows = refl
