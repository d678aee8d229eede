-- Worked rows, computed.
use Rattle.std.proofs.Common.{refl}
use Rattle.std.specs.Char.{encode_utf8}
use Rattle.std.specs.Str.{chars, is_utf8}
use Rattle.hwdb_spec.specs.Lines.{pieces}
use Rattle.hwdb_spec.specs.Visible.{visible_after}
use Rattle.hwdb_spec_commands.specs.DeviceTree.{last_after}
use Rattle.hwdb_spec_commands.specs.Exports.{decoded, devices_in, spot_after}
use Rattle.hwdb_exports.specs.Rows.{SaidRows}

pub said_rows : SaidRows
unfolding chars decoded devices_in encode_utf8 is_utf8 last_after pieces spot_after visible_after
said_rows = (refl, refl, refl, refl, refl)
