use Rattle.hwdb_ruleevents.proofs.EventLemmas.{events_are_covered}
use Rattle.hwdb_ruleevents.proofs.laws.events_are_covered.Goals as goal

pub returns : goal.returns
returns c = events_are_covered c.told_is_so.ensures c.parents_are_so.ensures
