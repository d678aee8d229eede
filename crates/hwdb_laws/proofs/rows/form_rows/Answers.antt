use Rattle.hwdb_laws.proofs.ComputedFormRows.{acpi_rows, bluetooth_rows, bus_rows, camera_rows, dmi_rows, evdev_rows, fire_wire_rows, machine_rows, mouse_rows, name_machine_rows, name_rows, oui_rows, part_rows, pci_rows, screen_rows, sensor_machine_rows, sensor_rows, single_rows, tablet_rows, usb_rows}
use Rattle.hwdb_laws.proofs.rows.form_rows.Goals as goal

pub returns : goal.returns
returns c = record {
  usb = usb_rows;
  mouse = mouse_rows;
  bus = bus_rows;
  evdev = evdev_rows;
  name = name_rows;
  named_machine = name_machine_rows;
  machine = machine_rows;
  dmi = dmi_rows;
  sensor = sensor_rows;
  sensor_machine = sensor_machine_rows;
  battery = part_rows;
  camera = camera_rows;
  tablet = tablet_rows;
  bluetooth = bluetooth_rows;
  acpi = acpi_rows;
  pci = pci_rows;
  firewire = fire_wire_rows;
  oui = oui_rows;
  screen = screen_rows;
  single = single_rows;
}
