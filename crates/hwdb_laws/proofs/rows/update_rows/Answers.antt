use Rattle.hwdb_laws.proofs.ComputedSaidRows.{deep_rows, fault_rows, hiding_rows, progress_rows}
use Rattle.hwdb_laws.proofs.rows.update_rows.Goals as goal

pub returns : goal.returns
returns c = record {
  progress = progress_rows;
  faults = fault_rows;
  deep = deep_rows;
  hiding = hiding_rows;
}
