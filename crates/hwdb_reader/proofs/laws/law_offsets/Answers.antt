use Rattle.hwdb_reader.proofs.FaultLemmas.{found_there}
use Rattle.hwdb_reader.proofs.laws.law_offsets.Goals as goal

pub returns : goal.returns
returns c = found_there
