use Rattle.hwdb_laws.proofs.ComputedSysfsRows.{attribute_rows, lead_rows, listed_rows, nowhere_rows, path_rows, untold_rows}
use Rattle.hwdb_laws.proofs.rows.sysfs_rows.Goals as goal

pub returns : goal.returns
returns c = record {
  nowhere = nowhere_rows;
  leading = lead_rows;
  listed = listed_rows;
  attributes = attribute_rows;
  paths = path_rows;
  untold = untold_rows;
}
