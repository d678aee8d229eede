use Rattle.hwdb_device.proofs.ComputedRecords.{keys_row, machine_rows, mouse_row, number_rows, other_rows, pattern_row}
use Rattle.hwdb_device.proofs.laws.record_rows.Goals as goal

pub returns : goal.returns
returns c = record {
  pattern = pattern_row;
  numbers = number_rows;
  machine = machine_rows;
  keys = keys_row;
  mouse = mouse_row;
  other = other_rows;
}
