use Rattle.hwdb_spec_program.proofs.ComputedRows.{hiding_rows, quiet_rows, there_rows, unsaid_rows}
use Rattle.hwdb_spec_program.proofs.rows.hiding_rows.Goals as goal

pub returns : goal.returns
returns c = record {
  line = hiding_rows;
  unsaid = unsaid_rows;
  quiet = quiet_rows;
  there = there_rows;
}
