use Rattle.hwdb_device.proofs.ComputedRows.{closest_row, json_row, left_out_rows, nearest_row}
use Rattle.hwdb_device.proofs.laws.text_rows.Goals as goal

pub returns : goal.returns
returns c = record {
  nearest = nearest_row;
  closest = closest_row;
  left_out = left_out_rows;
  json = json_row;
}
