-- The rows, computed.
use Rattle.hex.specs.Hex.{encode_with}
use Rattle.hwdb_laws.specs.StatusRows.{AskedRows, BareRemedyRows, BareRows, CommandRows, FileRows, JsonRows, LossRows, RemedyRows, StatusRows, TextRows, WordRows}
use Rattle.hwdb_spec.specs.Assignment.{ascending, assignment_cmp, position_cmp, put, put_all}
use Rattle.hwdb_spec_commands.specs.Json.{escaped_after, items_of, members_of}
use Rattle.hwdb_spec.specs.Visible.{visible_after}
use Rattle.json.specs.Print.{escape_byte, print_from}
use Rattle.std.proofs.Common.{refl}
use Rattle.std.specs.Char.{encode_utf8}
use Rattle.std.specs.Fmt.{digits}
use Rattle.std.specs.Str.{chars, is_utf8}

pub word_rows : WordRows
unfolding ascending put put_all assignment_cmp position_cmp visible_after is_utf8 chars encode_utf8 digits encode_with items_of members_of escaped_after escape_byte print_from
word_rows = refl

pub command_rows : CommandRows
unfolding ascending put put_all assignment_cmp position_cmp visible_after is_utf8 chars encode_utf8 digits encode_with items_of members_of escaped_after escape_byte print_from
command_rows = refl

pub asked_rows : AskedRows
unfolding ascending put put_all assignment_cmp position_cmp visible_after is_utf8 chars encode_utf8 digits encode_with items_of members_of escaped_after escape_byte print_from
asked_rows = refl

pub file_rows : FileRows
unfolding ascending put put_all assignment_cmp position_cmp visible_after is_utf8 chars encode_utf8 digits encode_with items_of members_of escaped_after escape_byte print_from
file_rows = refl

pub bare_rows : BareRows
unfolding ascending put put_all assignment_cmp position_cmp visible_after is_utf8 chars encode_utf8 digits encode_with items_of members_of escaped_after escape_byte print_from
bare_rows = refl

pub remedy_rows : RemedyRows
unfolding ascending put put_all assignment_cmp position_cmp visible_after is_utf8 chars encode_utf8 digits encode_with items_of members_of escaped_after escape_byte print_from
remedy_rows = refl

pub bare_remedy_rows : BareRemedyRows
unfolding ascending put put_all assignment_cmp position_cmp visible_after is_utf8 chars encode_utf8 digits encode_with items_of members_of escaped_after escape_byte print_from
bare_remedy_rows = refl

pub text_rows : TextRows
unfolding ascending put put_all assignment_cmp position_cmp visible_after is_utf8 chars encode_utf8 digits encode_with items_of members_of escaped_after escape_byte print_from
text_rows = refl

pub json_rows : JsonRows
unfolding ascending put put_all assignment_cmp position_cmp visible_after is_utf8 chars encode_utf8 digits encode_with items_of members_of escaped_after escape_byte print_from
json_rows = refl

pub status_rows : StatusRows
unfolding ascending put put_all assignment_cmp position_cmp visible_after is_utf8 chars encode_utf8 digits encode_with items_of members_of escaped_after escape_byte print_from
status_rows = refl

pub loss_rows : LossRows
unfolding ascending put put_all assignment_cmp position_cmp visible_after is_utf8 chars encode_utf8 digits encode_with items_of members_of escaped_after escape_byte print_from
loss_rows = refl
