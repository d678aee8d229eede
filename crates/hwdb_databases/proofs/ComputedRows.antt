-- The worked rows, computed.
use Rattle.std.proofs.Common.{refl}
use Rattle.std.specs.Fmt.{digits}
use Rattle.std.specs.Char.{encode_utf8}
use Rattle.std.specs.Str.{chars, is_utf8}
use Rattle.json.specs.Print.{escape_byte, print_from}
use Rattle.hwdb_spec_commands.specs.Json.{items_of, members_of, escaped_after}
use Rattle.hwdb_spec_commands.specs.ChangeCounts.{counted, with_changes}
use Rattle.hwdb_spec_commands.specs.Sides.{file_name}
use Rattle.hwdb_spec.specs.Visible.{visible_after}
use Rattle.hwdb_databases.specs.Rows.{DeviceStatRows, EtcRows, NameRows, StatJsonRows, StatRows, TextRows}

pub name_rows : NameRows
unfolding file_name
name_rows = refl

pub text_rows : TextRows
unfolding file_name
text_rows = refl

pub etc_rows : EtcRows
etc_rows = refl

pub stat_rows : StatRows
unfolding counted with_changes digits visible_after is_utf8 chars encode_utf8 file_name
stat_rows = refl

pub device_stat_rows : DeviceStatRows
unfolding counted with_changes digits visible_after is_utf8 chars encode_utf8 file_name
device_stat_rows = refl

pub stat_json_rows : StatJsonRows
unfolding counted with_changes digits escape_byte print_from items_of members_of is_utf8 chars encode_utf8 escaped_after file_name
stat_json_rows = refl
