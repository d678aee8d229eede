use Rattle.hwdb_laws.proofs.ComputedOverTextRows.{device_rows, dump_rows, near_rows, taken_rows, test_rows, verify_rows}
use Rattle.hwdb_laws.proofs.rows.over_text_rows.Goals as goal

pub returns : goal.returns
returns c = record {
  verify = verify_rows;
  dump = dump_rows;
  test = test_rows;
  near = near_rows;
  device = device_rows;
  taken = taken_rows;
}
