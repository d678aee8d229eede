use Rattle.hwdb_test.proofs.ComputedRows.{assign_rows, file_rows, hold_rows, json_rows, malformed_rows, text_rows}
use Rattle.hwdb_test.proofs.laws.worked_rows.Goals as goal

pub returns : goal.returns
returns c = record {
  holds = hold_rows;
  files = file_rows;
  assigns = assign_rows;
  malformed = malformed_rows;
  texts = text_rows;
  json = json_rows;
}
