use Rattle.hwdb_databases.proofs.ComputedRows.{device_stat_rows, etc_rows, name_rows, stat_json_rows, stat_rows, text_rows}
use Rattle.hwdb_databases.proofs.laws.worked_rows.Goals as goal

pub returns : goal.returns
returns c = record {
  names = name_rows;
  texts = text_rows;
  etc = etc_rows;
  counts = stat_rows;
  of_devices = device_stat_rows;
  as_json = stat_json_rows;
}
