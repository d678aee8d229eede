use Rattle.hwdb_databases.proofs.ToldLemmas.{asked_same}
use Rattle.hwdb_databases.proofs.laws.dump_tells.Goals as goal

pub returns : goal.returns
returns c = asked_same
