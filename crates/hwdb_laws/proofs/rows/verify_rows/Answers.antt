use Rattle.hwdb_laws.proofs.ComputedSaidRows.{summary_rows}
use Rattle.hwdb_laws.proofs.rows.verify_rows.Goals as goal

pub returns : goal.returns
returns c = summary_rows
