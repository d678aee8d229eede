use Rattle.hwdb_laws.proofs.ToldLemmas.{told_is_one}
use Rattle.hwdb_laws.proofs.told.told_is_one.Goals as goal

pub returns : goal.returns
returns c = told_is_one
