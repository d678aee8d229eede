use Rattle.hwdb_ruleevents.proofs.EventLemmas.{events_are_exact}
use Rattle.hwdb_ruleevents.proofs.laws.events_are_exact.Goals as goal

pub returns : goal.returns
returns c = events_are_exact c.told_is_so.ensures c.parents_are_so.ensures
