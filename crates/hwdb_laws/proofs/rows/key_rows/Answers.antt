use Rattle.hwdb_laws.proofs.ComputedKeyRows.{all_rows, code_rows, json_rows, other_rows, part_rows, several_rows, status_rows}
use Rattle.hwdb_laws.proofs.rows.key_rows.Goals as goal

pub returns : goal.returns
returns c = record {
  known = code_rows;
  parts = part_rows;
  others = other_rows;
  several = several_rows;
  all = all_rows;
  as_json = json_rows;
  status = status_rows;
}
