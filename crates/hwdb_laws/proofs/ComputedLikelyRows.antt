-- The rows, computed.
use Rattle.hwdb_laws.specs.LikelyRows.{BatteryMachineRows, BatteryRows, BusRows, CameraRows, DmiRows, JoystickRows, MachineRows, MouseRows, NameMachineRows, NameRows, PlaceMachineRows, PlaceRows, SensorMachineRows, SensorRows, TabletRows, TouchpadRows}
use Rattle.hwdb_spec.specs.Forms.{all_bytes_from, byte_row, counted_row, either_row, end_row, field_row, fields_row, fixed_row, many_row, none_row, pieces_row}
use Rattle.hwdb_spec.specs.Patterns.{bracket_at, classes, item_at, items_from, token_at, tokens_from}
use Rattle.std.proofs.Common.{refl}

pub machine_rows : MachineRows
unfolding tokens_from token_at item_at items_from bracket_at classes byte_row many_row fixed_row counted_row pieces_row either_row none_row end_row field_row fields_row all_bytes_from
machine_rows = refl

pub dmi_rows : DmiRows
unfolding tokens_from token_at item_at items_from bracket_at classes byte_row many_row fixed_row counted_row pieces_row either_row none_row end_row field_row fields_row all_bytes_from
dmi_rows = refl

pub name_rows : NameRows
unfolding tokens_from token_at item_at items_from bracket_at classes byte_row many_row fixed_row counted_row pieces_row either_row none_row end_row field_row fields_row all_bytes_from
name_rows = refl

pub name_machine_rows : NameMachineRows
unfolding tokens_from token_at item_at items_from bracket_at classes byte_row many_row fixed_row counted_row pieces_row either_row none_row end_row field_row fields_row all_bytes_from
name_machine_rows = refl

pub place_rows : PlaceRows
unfolding tokens_from token_at item_at items_from bracket_at classes byte_row many_row fixed_row counted_row pieces_row either_row none_row end_row field_row fields_row all_bytes_from
place_rows = refl

pub place_machine_rows : PlaceMachineRows
unfolding tokens_from token_at item_at items_from bracket_at classes byte_row many_row fixed_row counted_row pieces_row either_row none_row end_row field_row fields_row all_bytes_from
place_machine_rows = refl

pub bus_rows : BusRows
unfolding tokens_from token_at item_at items_from bracket_at classes byte_row many_row fixed_row counted_row pieces_row either_row none_row end_row field_row fields_row all_bytes_from
bus_rows = refl

pub mouse_rows : MouseRows
unfolding tokens_from token_at item_at items_from bracket_at classes byte_row many_row fixed_row counted_row pieces_row either_row none_row end_row field_row fields_row all_bytes_from
mouse_rows = refl

pub camera_rows : CameraRows
unfolding tokens_from token_at item_at items_from bracket_at classes byte_row many_row fixed_row counted_row pieces_row either_row none_row end_row field_row fields_row all_bytes_from
camera_rows = refl

pub touchpad_rows : TouchpadRows
unfolding tokens_from token_at item_at items_from bracket_at classes byte_row many_row fixed_row counted_row pieces_row either_row none_row end_row field_row fields_row all_bytes_from
touchpad_rows = refl

pub joystick_rows : JoystickRows
unfolding tokens_from token_at item_at items_from bracket_at classes byte_row many_row fixed_row counted_row pieces_row either_row none_row end_row field_row fields_row all_bytes_from
joystick_rows = refl

pub sensor_rows : SensorRows
unfolding tokens_from token_at item_at items_from bracket_at classes byte_row many_row fixed_row counted_row pieces_row either_row none_row end_row field_row fields_row all_bytes_from
sensor_rows = refl

pub sensor_machine_rows : SensorMachineRows
unfolding tokens_from token_at item_at items_from bracket_at classes byte_row many_row fixed_row counted_row pieces_row either_row none_row end_row field_row fields_row all_bytes_from
sensor_machine_rows = refl

pub battery_rows : BatteryRows
unfolding tokens_from token_at item_at items_from bracket_at classes byte_row many_row fixed_row counted_row pieces_row either_row none_row end_row field_row fields_row all_bytes_from
battery_rows = refl

pub battery_machine_rows : BatteryMachineRows
unfolding tokens_from token_at item_at items_from bracket_at classes byte_row many_row fixed_row counted_row pieces_row either_row none_row end_row field_row fields_row all_bytes_from
battery_machine_rows = refl

pub tablet_rows : TabletRows
unfolding tokens_from token_at item_at items_from bracket_at classes byte_row many_row fixed_row counted_row pieces_row either_row none_row end_row field_row fields_row all_bytes_from
tablet_rows = refl
