use Rattle.hwdb_laws.proofs.ComputedSaidRows.{near_json_rows, near_rows}
use Rattle.hwdb_laws.proofs.rows.near_rows.Goals as goal

pub returns : goal.returns
returns c = record {
  text = near_rows;
  as_json = near_json_rows;
}
