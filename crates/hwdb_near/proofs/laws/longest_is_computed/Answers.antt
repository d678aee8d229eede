use Rattle.hwdb_near.proofs.ComputedLemmas.{longest_computed}
use Rattle.hwdb_near.proofs.laws.longest_is_computed.Goals as goal

pub returns : goal.returns
returns c = longest_computed c.matches_is_tested.ensures
