use Rattle.hwdb_device.proofs.ComputedRows.{list_row, no_row, strings_row, text_row}
use Rattle.hwdb_device.proofs.laws.device_rows.Goals as goal

pub returns : goal.returns
returns c = record {
  text = text_row;
  strings = strings_row;
  list = list_row;
  none = no_row;
}
