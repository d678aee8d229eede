use Rattle.hwdb_reader.proofs.KeyOrderLemmas.{database_ascends}
use Rattle.hwdb_reader.proofs.laws.law_ascending.Goals as goal

pub returns : goal.returns
returns c = database_ascends
