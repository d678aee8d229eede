use Rattle.hwdb_reader.proofs.WholeLemmas.{few_nodes}
use Rattle.hwdb_reader.proofs.laws.law_few_nodes.Goals as goal

pub returns : goal.returns
returns c = few_nodes
