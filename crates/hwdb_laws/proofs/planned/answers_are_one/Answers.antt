use Rattle.hwdb_laws.proofs.PlannedLemmas.{planned_done, planned_runs}
use Rattle.hwdb_laws.proofs.planned.answers_are_one.Goals as goal

pub returns : goal.returns
returns c =
    let one_end = c.done_is_one.ensures in
    let is_over = c.over_is_over.ensures in
    let no_more = c.over_is_no_more.ensures in
    record { one = planned_runs one_end is_over no_more; done = planned_done one_end is_over no_more }
