-- The rows, computed.
use Rattle.hex.specs.Hex.{encode_with}
use Rattle.hwdb_laws.specs.CheckRows.{ElsewhereRows, FaultRows, FixRows, FixedRows, FormatRows, GithubRows, HintRows, JsonRows, OrderRows, RepeatedRows, ReplacedRows, ReportRows, SarifRows, TallyRows, ToldRows, UnpairedRows, UnreadRows, WarnedRows}
use Rattle.hwdb_spec_commands.specs.AllowedKinds.{marked_from, names_to_end, one_unknown}
use Rattle.hwdb_spec_commands.specs.Unmatched.{judgement_of, likelihood_of}
use Rattle.hwdb_spec_commands.specs.FormTable.{free_prefixes, known}
use Rattle.hwdb_spec_commands.specs.Json.{escaped_after, items_of, members_of}
use Rattle.hwdb_spec.specs.Lines.{numbered, pieces, trimmed}
use Rattle.hwdb_spec.specs.Patterns.{bracket_at, classes, item_at, items_from, range_from, reversed_from, token_at, tokens_from}
use Rattle.hwdb_spec.specs.Records.{behind, first_section, sections_from}
use Rattle.hwdb_spec.specs.Tree.{closed_from}
use Rattle.hwdb_spec.specs.Visible.{visible_after}
use Rattle.hwdb_spec_commands.specs.Warnings.{repeated_from}
use Rattle.hwdb_spec_commands.specs.Findings.{one_fault, one_warning, told_fault, told_warning}
use Rattle.json.specs.Print.{escape_byte, print_from}
use Rattle.std.proofs.Common.{refl}
use Rattle.std.specs.Char.{encode_utf8}
use Rattle.std.specs.Fmt.{digits}
use Rattle.std.specs.Str.{chars, is_utf8}

pub told_rows : ToldRows
unfolding pieces numbered trimmed first_section sections_from behind tokens_from token_at item_at items_from bracket_at classes repeated_from closed_from reversed_from range_from known free_prefixes visible_after is_utf8 chars encode_utf8 digits encode_with items_of members_of escaped_after escape_byte print_from told_fault told_warning one_fault
told_rows = refl

pub elsewhere_rows : ElsewhereRows
unfolding pieces numbered trimmed first_section sections_from behind tokens_from token_at item_at items_from bracket_at classes repeated_from closed_from reversed_from range_from known free_prefixes visible_after is_utf8 chars encode_utf8 digits encode_with items_of members_of escaped_after escape_byte print_from told_fault told_warning one_fault
elsewhere_rows = refl

pub unread_rows : UnreadRows
unfolding pieces numbered trimmed first_section sections_from behind tokens_from token_at item_at items_from bracket_at classes repeated_from closed_from reversed_from range_from known free_prefixes visible_after is_utf8 chars encode_utf8 digits encode_with items_of members_of escaped_after escape_byte print_from told_fault told_warning one_fault
unread_rows = refl

pub unpaired_rows : UnpairedRows
unfolding pieces numbered trimmed first_section sections_from behind tokens_from token_at item_at items_from bracket_at classes repeated_from closed_from reversed_from range_from known free_prefixes visible_after is_utf8 chars encode_utf8 digits encode_with items_of members_of escaped_after escape_byte print_from told_fault told_warning one_fault
unpaired_rows = refl

pub hint_rows : HintRows
unfolding pieces numbered trimmed first_section sections_from behind tokens_from token_at item_at items_from bracket_at classes repeated_from closed_from reversed_from range_from known free_prefixes visible_after is_utf8 chars encode_utf8 digits encode_with items_of members_of escaped_after escape_byte print_from told_fault told_warning one_fault
hint_rows = (refl, refl, refl, refl, refl)

pub repeated_rows : RepeatedRows
unfolding pieces numbered trimmed first_section sections_from behind tokens_from token_at item_at items_from bracket_at classes repeated_from closed_from reversed_from range_from known free_prefixes visible_after is_utf8 chars encode_utf8 digits encode_with items_of members_of escaped_after escape_byte print_from told_fault told_warning one_fault
repeated_rows = refl

pub replaced_rows : ReplacedRows
unfolding pieces numbered trimmed first_section sections_from behind tokens_from token_at item_at items_from bracket_at classes repeated_from closed_from reversed_from range_from known free_prefixes visible_after is_utf8 chars encode_utf8 digits encode_with items_of members_of escaped_after escape_byte print_from told_fault told_warning one_fault
replaced_rows = refl

pub warned_rows : WarnedRows
unfolding pieces numbered trimmed first_section sections_from behind tokens_from token_at item_at items_from bracket_at classes repeated_from closed_from reversed_from range_from known free_prefixes visible_after is_utf8 chars encode_utf8 digits encode_with items_of members_of escaped_after escape_byte print_from told_fault told_warning one_fault
warned_rows = (refl, refl, refl, refl, refl, refl)

pub report_rows : ReportRows
unfolding pieces numbered trimmed first_section sections_from behind tokens_from token_at item_at items_from bracket_at classes repeated_from closed_from reversed_from range_from known free_prefixes visible_after is_utf8 chars encode_utf8 digits encode_with items_of members_of escaped_after escape_byte print_from told_fault told_warning one_fault
report_rows = refl

pub json_rows : JsonRows
unfolding pieces numbered trimmed first_section sections_from behind tokens_from token_at item_at items_from bracket_at classes repeated_from closed_from reversed_from range_from known free_prefixes visible_after is_utf8 chars encode_utf8 digits encode_with items_of members_of escaped_after escape_byte print_from told_fault told_warning one_fault
json_rows = refl

pub fault_rows : FaultRows
unfolding pieces numbered trimmed first_section sections_from behind tokens_from token_at item_at items_from bracket_at classes repeated_from closed_from reversed_from range_from known free_prefixes visible_after is_utf8 chars encode_utf8 digits encode_with items_of members_of escaped_after escape_byte print_from told_fault told_warning one_fault
fault_rows = refl

pub tally_rows : TallyRows
unfolding pieces numbered trimmed first_section sections_from behind tokens_from token_at item_at items_from bracket_at classes repeated_from closed_from reversed_from range_from known free_prefixes visible_after is_utf8 chars encode_utf8 digits encode_with items_of members_of escaped_after escape_byte print_from told_fault told_warning one_fault
tally_rows = (refl, refl, refl, refl)

pub github_rows : GithubRows
unfolding pieces numbered trimmed first_section sections_from behind tokens_from token_at item_at items_from bracket_at classes repeated_from closed_from reversed_from range_from known free_prefixes visible_after is_utf8 chars encode_utf8 digits encode_with items_of members_of escaped_after escape_byte print_from told_fault told_warning one_fault
github_rows = refl

pub sarif_rows : SarifRows
unfolding pieces numbered trimmed first_section sections_from behind tokens_from token_at item_at items_from bracket_at classes repeated_from closed_from reversed_from range_from known free_prefixes visible_after is_utf8 chars encode_utf8 digits encode_with items_of members_of escaped_after escape_byte print_from told_fault told_warning one_fault
sarif_rows = (refl, refl)

pub format_rows : FormatRows
unfolding pieces numbered trimmed first_section sections_from behind tokens_from token_at item_at items_from bracket_at classes repeated_from closed_from reversed_from range_from known free_prefixes visible_after is_utf8 chars encode_utf8 digits encode_with items_of members_of escaped_after escape_byte print_from told_fault told_warning one_fault
format_rows = (refl, refl, refl)

pub fixed_rows : FixedRows
unfolding pieces numbered trimmed first_section sections_from behind tokens_from token_at item_at items_from bracket_at classes repeated_from closed_from reversed_from range_from known free_prefixes visible_after is_utf8 chars encode_utf8 digits encode_with items_of members_of escaped_after escape_byte print_from told_fault told_warning one_fault
fixed_rows = refl

pub fix_rows : FixRows
unfolding pieces numbered trimmed first_section sections_from behind tokens_from token_at item_at items_from bracket_at classes repeated_from closed_from reversed_from range_from known free_prefixes visible_after is_utf8 chars encode_utf8 digits encode_with items_of members_of escaped_after escape_byte print_from told_fault told_warning one_fault
fix_rows = refl

pub order_rows : OrderRows
unfolding pieces numbered trimmed first_section sections_from behind tokens_from token_at item_at items_from bracket_at classes repeated_from closed_from reversed_from range_from known free_prefixes visible_after is_utf8 chars encode_utf8 digits encode_with items_of members_of escaped_after escape_byte print_from told_fault told_warning one_fault one_warning one_unknown marked_from names_to_end judgement_of likelihood_of
order_rows = refl
