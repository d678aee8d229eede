-- The worked rows, computed.
use Rattle.std.proofs.Common.{refl}
use Rattle.std.specs.Fmt.{digits}
use Rattle.std.specs.Char.{encode_utf8}
use Rattle.std.specs.Str.{chars, is_utf8}
use Rattle.json.specs.Print.{escape_byte, print_from}
use Rattle.hwdb_spec_commands.specs.Json.{escaped_after, items_of, members_of}
use Rattle.hwdb_spec.specs.Lines.{pieces, trimmed, numbered}
use Rattle.hwdb_spec.specs.Records.{behind, first_section, sections_from}
use Rattle.hwdb_spec_commands.specs.Wanted.{records_from}
use Rattle.hwdb_spec.specs.Visible.{visible_after}
use Rattle.hwdb_test.specs.Rows.{AssignRows, FileRows, HoldRows, JsonRows, MalformedRows, TextRows}

pub hold_rows : HoldRows
hold_rows = refl

pub file_rows : FileRows
unfolding pieces trimmed numbered records_from
file_rows = refl

pub assign_rows : AssignRows
unfolding pieces trimmed numbered records_from behind first_section sections_from
assign_rows = refl

pub malformed_rows : MalformedRows
unfolding pieces trimmed numbered behind first_section sections_from
malformed_rows = refl

pub text_rows : TextRows
unfolding digits visible_after is_utf8 chars encode_utf8
text_rows = refl

pub json_rows : JsonRows
unfolding digits escape_byte print_from items_of members_of is_utf8 chars encode_utf8 escaped_after
json_rows = refl
