-- The rows, computed.
use Rattle.hwdb_laws.specs.KeyRows.{AllRows, CodeRows, JsonRows, OtherRows, PartRows, SeveralRows, StatusRows}
use Rattle.hwdb_spec.specs.Lines.{pieces}
use Rattle.hwdb_spec_commands.specs.Json.{escaped_after, items_of, members_of}
use Rattle.hwdb_spec_commands.specs.KeysAsked.{keys_text}
use Rattle.json.specs.Print.{escape_byte, print_from}
use Rattle.std.proofs.Common.{refl}
use Rattle.std.specs.Char.{encode_utf8}
use Rattle.std.specs.Fmt.{digits}
use Rattle.std.specs.Str.{chars, is_utf8}

pub code_rows : CodeRows
unfolding pieces
code_rows = refl

pub part_rows : PartRows
unfolding pieces
part_rows = refl

pub other_rows : OtherRows
unfolding pieces
other_rows = refl

pub several_rows : SeveralRows
unfolding pieces
several_rows = refl

pub all_rows : AllRows
unfolding pieces keys_text
all_rows = refl

pub json_rows : JsonRows
unfolding pieces escaped_after items_of members_of escape_byte print_from encode_utf8 digits chars is_utf8
json_rows = refl

pub status_rows : StatusRows
status_rows = refl
