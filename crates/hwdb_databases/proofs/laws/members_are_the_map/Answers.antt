use Rattle.hwdb_databases.proofs.OrderLemmas.{entries_of_tree}
use Rattle.hwdb_databases.proofs.laws.members_are_the_map.Goals as goal

pub returns : goal.returns
returns c = entries_of_tree
