use Rattle.hwdb_check.proofs.LawLemmas.{likely_mends}
use Rattle.hwdb_check.proofs.laws.mends_are_likely.Goals as goal

pub returns-clause-likely : goal.returns-clause-likely
returns-clause-likely c = likely_mends c.forms_are_tested.ensures
