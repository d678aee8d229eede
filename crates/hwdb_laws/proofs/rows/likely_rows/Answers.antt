use Rattle.hwdb_laws.proofs.ComputedLikelyRows.{battery_machine_rows, battery_rows, bus_rows, camera_rows, dmi_rows, joystick_rows, machine_rows, mouse_rows, name_machine_rows, name_rows, place_machine_rows, place_rows, sensor_machine_rows, sensor_rows, tablet_rows, touchpad_rows}
use Rattle.hwdb_laws.proofs.rows.likely_rows.Goals as goal

pub returns : goal.returns
returns c = record {
  machine = machine_rows;
  dmi = dmi_rows;
  name = name_rows;
  name_machine = name_machine_rows;
  place = place_rows;
  place_machine = place_machine_rows;
  bus = bus_rows;
  mouse = mouse_rows;
  camera = camera_rows;
  touchpad = touchpad_rows;
  joystick = joystick_rows;
  sensor = sensor_rows;
  sensor_machine = sensor_machine_rows;
  battery = battery_rows;
  battery_machine = battery_machine_rows;
  tablet = tablet_rows;
}
