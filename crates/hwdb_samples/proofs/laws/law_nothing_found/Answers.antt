use Rattle.hwdb_samples.proofs.LawLemmas.{nothing_is_same_of_all}
use Rattle.hwdb_samples.proofs.laws.law_nothing_found.Goals as goal

pub returns : goal.returns
returns c = nothing_is_same_of_all c.matches_is_tested.ensures
