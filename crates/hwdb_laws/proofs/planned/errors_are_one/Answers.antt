use Rattle.hwdb_laws.proofs.PlannedErrorLemmas.{planned_errors}
use Rattle.hwdb_laws.proofs.planned.errors_are_one.Goals as goal

pub returns : goal.returns
returns c = planned_errors c.plans_end_alike.ensures c.over_is_over.ensures c.over_is_no_more.ensures
