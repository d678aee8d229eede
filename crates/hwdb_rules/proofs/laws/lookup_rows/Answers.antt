use Rattle.hwdb_rules.proofs.ComputedRows.{battery_row, camera_row, keyboard_row, long_row, mouse_row, net_row, pad_row, sensor_row, tagged_row, usb_row, walk_row, written_row}
use Rattle.hwdb_rules.proofs.laws.lookup_rows.Goals as goal

pub returns : goal.returns
returns c = record {
  keyboard = keyboard_row;
  usb = usb_row;
  walk = walk_row;
  mouse = mouse_row;
  sensor = sensor_row;
  camera = camera_row;
  net = net_row;
  pad = pad_row;
  tagged = tagged_row;
  battery = battery_row;
  written = written_row;
  long = long_row;
}
