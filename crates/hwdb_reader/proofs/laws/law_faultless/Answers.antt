use Rattle.hwdb_reader.proofs.FaultlessLemmas.{faultless}
use Rattle.hwdb_reader.proofs.laws.law_faultless.Goals as goal

pub returns : goal.returns
returns c = faultless
