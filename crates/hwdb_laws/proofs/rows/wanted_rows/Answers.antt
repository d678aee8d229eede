use Rattle.hwdb_laws.proofs.ComputedWantedRows.{held_rows, record_rows, said_rows, status_rows, test_rows, unsaid_rows, why_rows}
use Rattle.hwdb_laws.proofs.rows.wanted_rows.Goals as goal

pub returns : goal.returns
returns c = record {
  held = held_rows;
  status = status_rows;
  text = test_rows;
  records = record_rows;
  said = said_rows;
  unsaid = unsaid_rows;
  why = why_rows;
}
