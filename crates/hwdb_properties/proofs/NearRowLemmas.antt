-- The rows of keys that are near, computed.
use Rattle.std.proofs.Common.{refl}
use Rattle.std.specs.Char.{encode_utf8}
use Rattle.std.specs.Str.{chars, is_utf8}
use Rattle.strsim.specs.Edits.{cost_at, next_row, rows}
use Rattle.hwdb_spec.specs.Lines.{pieces}
use Rattle.hwdb_spec.specs.Visible.{visible_after}
use Rattle.hwdb_spec_commands.specs.DeviceTree.{alike, nearest_of}
use Rattle.hwdb_spec_commands.specs.KeysAsked.{keys_told}
use Rattle.hwdb_properties.specs.NearRows.{NearKeyRows, SaidRows}

pub near_rows : NearKeyRows
unfolding alike cost_at next_row rows nearest_of pieces
near_rows = refl

pub said_rows : SaidRows
unfolding keys_told visible_after is_utf8 chars encode_utf8
said_rows = (refl, refl, refl)
