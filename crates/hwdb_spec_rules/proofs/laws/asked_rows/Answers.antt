use Rattle.hwdb_spec_rules.proofs.ComputedRows.{asked_rows_hold}
use Rattle.hwdb_spec_rules.proofs.laws.asked_rows.Goals as goal

pub returns : goal.returns
returns c = asked_rows_hold
