use Rattle.hwdb_laws.proofs.ComputedSaidRows.{explain_rows}
use Rattle.hwdb_laws.proofs.rows.explain_rows.Goals as goal

pub returns : goal.returns
returns c = explain_rows
