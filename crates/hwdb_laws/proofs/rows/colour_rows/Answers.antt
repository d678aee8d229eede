use Rattle.hwdb_laws.proofs.ComputedColourRows.{change_rows, device_rows, hit_rows, origin_rows, property_rows, record_rows, report_rows, without_rows}
use Rattle.hwdb_laws.proofs.rows.colour_rows.Goals as goal

pub returns : goal.returns
returns c = record {
  properties = property_rows;
  origins = origin_rows;
  hits = hit_rows;
  reports = report_rows;
  changes = change_rows;
  devices = device_rows;
  records = record_rows;
  without = without_rows;
}
