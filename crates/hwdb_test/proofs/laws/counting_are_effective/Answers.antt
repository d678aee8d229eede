use Rattle.hwdb_test.proofs.GivenLemmas.{counting_are_effective}
use Rattle.hwdb_test.proofs.laws.counting_are_effective.Goals as goal

pub returns : goal.returns
returns c = counting_are_effective c.explained_are_effective.ensures.properties c.explained_are_effective.ensures.present
