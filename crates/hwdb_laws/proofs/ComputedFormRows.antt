-- The rows, computed.
use Rattle.hwdb_laws.specs.FormRows.{AcpiRows, BluetoothRows, BusRows, CameraRows, DmiRows, EvdevRows, FireWireRows, MachineRows, MouseRows, NameMachineRows, NameRows, OuiRows, PartRows, PciRows, ScreenRows, SensorMachineRows, SensorRows, SingleRows, TabletRows, UsbRows}
use Rattle.hwdb_spec.specs.Forms.{all_bytes_from, byte_row, counted_row, either_row, end_row, field_row, fields_row, fixed_row, many_row, none_row, pieces_row}
use Rattle.hwdb_spec.specs.Patterns.{bracket_at, classes, item_at, items_from, token_at, tokens_from}
use Rattle.std.proofs.Common.{refl}

pub usb_rows : UsbRows
unfolding tokens_from token_at item_at items_from bracket_at classes byte_row many_row fixed_row counted_row pieces_row either_row none_row end_row field_row fields_row all_bytes_from
usb_rows = refl

pub mouse_rows : MouseRows
unfolding tokens_from token_at item_at items_from bracket_at classes byte_row many_row fixed_row counted_row pieces_row either_row none_row end_row field_row fields_row all_bytes_from
mouse_rows = refl

pub bus_rows : BusRows
unfolding tokens_from token_at item_at items_from bracket_at classes byte_row many_row fixed_row counted_row pieces_row either_row none_row end_row field_row fields_row all_bytes_from
bus_rows = refl

pub evdev_rows : EvdevRows
unfolding tokens_from token_at item_at items_from bracket_at classes byte_row many_row fixed_row counted_row pieces_row either_row none_row end_row field_row fields_row all_bytes_from
evdev_rows = refl

pub name_rows : NameRows
unfolding tokens_from token_at item_at items_from bracket_at classes byte_row many_row fixed_row counted_row pieces_row either_row none_row end_row field_row fields_row all_bytes_from
name_rows = refl

pub name_machine_rows : NameMachineRows
unfolding tokens_from token_at item_at items_from bracket_at classes byte_row many_row fixed_row counted_row pieces_row either_row none_row end_row field_row fields_row all_bytes_from
name_machine_rows = refl

pub machine_rows : MachineRows
unfolding tokens_from token_at item_at items_from bracket_at classes byte_row many_row fixed_row counted_row pieces_row either_row none_row end_row field_row fields_row all_bytes_from
machine_rows = refl

pub dmi_rows : DmiRows
unfolding tokens_from token_at item_at items_from bracket_at classes byte_row many_row fixed_row counted_row pieces_row either_row none_row end_row field_row fields_row all_bytes_from
dmi_rows = refl

pub sensor_rows : SensorRows
unfolding tokens_from token_at item_at items_from bracket_at classes byte_row many_row fixed_row counted_row pieces_row either_row none_row end_row field_row fields_row all_bytes_from
sensor_rows = refl

pub sensor_machine_rows : SensorMachineRows
unfolding tokens_from token_at item_at items_from bracket_at classes byte_row many_row fixed_row counted_row pieces_row either_row none_row end_row field_row fields_row all_bytes_from
sensor_machine_rows = refl

pub part_rows : PartRows
unfolding tokens_from token_at item_at items_from bracket_at classes byte_row many_row fixed_row counted_row pieces_row either_row none_row end_row field_row fields_row all_bytes_from
part_rows = refl

pub camera_rows : CameraRows
unfolding tokens_from token_at item_at items_from bracket_at classes byte_row many_row fixed_row counted_row pieces_row either_row none_row end_row field_row fields_row all_bytes_from
camera_rows = refl

pub tablet_rows : TabletRows
unfolding tokens_from token_at item_at items_from bracket_at classes byte_row many_row fixed_row counted_row pieces_row either_row none_row end_row field_row fields_row all_bytes_from
tablet_rows = refl

pub bluetooth_rows : BluetoothRows
unfolding tokens_from token_at item_at items_from bracket_at classes byte_row many_row fixed_row counted_row pieces_row either_row none_row end_row field_row fields_row all_bytes_from
bluetooth_rows = refl

pub acpi_rows : AcpiRows
unfolding tokens_from token_at item_at items_from bracket_at classes byte_row many_row fixed_row counted_row pieces_row either_row none_row end_row field_row fields_row all_bytes_from
acpi_rows = refl

pub pci_rows : PciRows
unfolding tokens_from token_at item_at items_from bracket_at classes byte_row many_row fixed_row counted_row pieces_row either_row none_row end_row field_row fields_row all_bytes_from
pci_rows = refl

pub fire_wire_rows : FireWireRows
unfolding tokens_from token_at item_at items_from bracket_at classes byte_row many_row fixed_row counted_row pieces_row either_row none_row end_row field_row fields_row all_bytes_from
fire_wire_rows = refl

pub oui_rows : OuiRows
unfolding tokens_from token_at item_at items_from bracket_at classes byte_row many_row fixed_row counted_row pieces_row either_row none_row end_row field_row fields_row all_bytes_from
oui_rows = refl

pub screen_rows : ScreenRows
unfolding tokens_from token_at item_at items_from bracket_at classes byte_row many_row fixed_row counted_row pieces_row either_row none_row end_row field_row fields_row all_bytes_from
screen_rows = refl

pub single_rows : SingleRows
unfolding tokens_from token_at item_at items_from bracket_at classes byte_row many_row fixed_row counted_row pieces_row either_row none_row end_row field_row fields_row all_bytes_from
single_rows = (refl, refl, refl, refl, refl, refl, refl, refl, refl, refl, refl)
