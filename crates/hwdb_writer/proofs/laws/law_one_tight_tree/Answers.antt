use Rattle.hwdb_writer.proofs.OneTreeLemmas.{one_tight}
use Rattle.hwdb_writer.proofs.laws.law_one_tight_tree.Goals as goal

pub returns : goal.returns
returns c = one_tight
