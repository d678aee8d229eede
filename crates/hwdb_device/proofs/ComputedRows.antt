-- The worked rows, computed.
use Rattle.std.proofs.Common.{refl}
use Rattle.std.specs.Fmt.{digits}
use Rattle.std.specs.Char.{encode_utf8}
use Rattle.std.specs.Str.{chars, is_utf8}
use Rattle.json.specs.Print.{escape_byte, print_from}
use Rattle.hwdb_spec.specs.Assignment.{put, put_all}
use Rattle.strsim.specs.Edits.{cost_at, next_row, rows}
use Rattle.hwdb_spec_commands.specs.DeviceTree.{above, alike, first_given, last_after, nearest_of}
use Rattle.hwdb_spec_commands.specs.Inputs.{after_words, count_bits}
use Rattle.hwdb_spec_commands.specs.Json.{items_of, members_of, escaped_after}
use Rattle.hwdb_spec.specs.Lines.{pieces}
use Rattle.hwdb_spec_commands.specs.Lookups.{asked_in, flag_after, strings_from, told_value}
use Rattle.hwdb_spec_commands.specs.Near.{first_up_to, last_up_to}
use Rattle.hwdb_spec_commands.specs.NearPrefixes.{closest_after}
use Rattle.hwdb_spec.specs.Patterns.{bracket_at, byte_then, classes, item_at, items_from, matches, piece_then, some_ending, token_at, tokens_from}
use Rattle.hwdb_spec.specs.Tree.{some_up_to}
use Rattle.hwdb_spec_commands.specs.Sysfs.{cut_back, first_at, replaced, value_of}
use Rattle.hwdb_device.specs.AskedRows.{ErrorRows, FormRows, LinkRows, MissingRows}
use Rattle.hwdb_spec.specs.Visible.{visible_after}
use Rattle.hwdb_device.specs.Rows.{ClosestRow, JsonRow, LeftOutRows, ListRow, NearestRow, NoRow, StringsRow, TextRow}

pub text_row : TextRow
unfolding closest_after after_words count_bits pieces asked_in flag_after strings_from told_value cut_back first_at replaced value_of put put_all digits visible_after is_utf8 chars encode_utf8
text_row = refl

pub strings_row : StringsRow
unfolding after_words count_bits pieces asked_in flag_after strings_from told_value cut_back first_at replaced value_of
strings_row = refl

pub list_row : ListRow
unfolding after_words count_bits pieces asked_in flag_after strings_from told_value cut_back first_at replaced value_of visible_after is_utf8 chars encode_utf8
list_row = refl

pub no_row : NoRow
no_row = refl

pub nearest_row : NearestRow
unfolding closest_after put put_all digits tokens_from token_at bracket_at items_from item_at classes some_ending byte_then piece_then matches some_up_to last_up_to first_up_to visible_after is_utf8 chars encode_utf8
nearest_row = refl

pub closest_row : ClosestRow
unfolding closest_after put put_all digits tokens_from token_at bracket_at items_from item_at classes some_ending byte_then piece_then matches some_up_to last_up_to first_up_to visible_after is_utf8 chars encode_utf8
closest_row = refl

pub left_out_rows : LeftOutRows
unfolding closest_after put put_all
left_out_rows = refl

pub json_row : JsonRow
unfolding put put_all escape_byte print_from items_of members_of is_utf8 chars encode_utf8 escaped_after
json_row = refl

pub link_rows : LinkRows
unfolding above first_given last_after pieces after_words count_bits asked_in flag_after strings_from told_value cut_back first_at replaced value_of put put_all visible_after is_utf8 chars encode_utf8
link_rows = refl

pub missing_rows : MissingRows
unfolding above alike cost_at next_row rows first_given last_after nearest_of pieces after_words count_bits asked_in flag_after strings_from told_value cut_back first_at replaced value_of put put_all visible_after is_utf8 chars encode_utf8
missing_rows = refl

pub error_rows : ErrorRows
unfolding visible_after is_utf8 chars encode_utf8
error_rows = (refl, refl)

pub form_rows : FormRows
form_rows = refl
