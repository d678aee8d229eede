use Rattle.hwdb_laws.proofs.ComputedChangeRows.{device_rows, difference_rows, file_rows, joined_rows, line_rows, place_rows, reviewed_file_rows, table_rows}
use Rattle.hwdb_laws.proofs.rows.change_rows.Goals as goal

pub returns : goal.returns
returns c = record {
  place = place_rows;
  joined = joined_rows;
  differences = difference_rows;
  lines = line_rows;
  device = device_rows;
  tables = table_rows;
  files = file_rows;
  reviewed = reviewed_file_rows;
}
