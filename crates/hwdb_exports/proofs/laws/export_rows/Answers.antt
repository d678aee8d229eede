use Rattle.hwdb_exports.proofs.ComputedRows.{said_rows}
use Rattle.hwdb_exports.proofs.laws.export_rows.Goals as goal

pub returns-clause-said : goal.returns-clause-said
returns-clause-said c = said_rows
