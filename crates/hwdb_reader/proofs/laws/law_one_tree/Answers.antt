use Rattle.hwdb_reader.proofs.WholeLemmas.{one_database}
use Rattle.hwdb_reader.proofs.laws.law_one_tree.Goals as goal

pub returns : goal.returns
returns c = one_database
