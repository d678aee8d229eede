use Rattle.hwdb_near.proofs.ReplacedLemmas.{last_and_replaced}
use Rattle.hwdb_near.proofs.laws.last_and_replaced_are_all.Goals as goal

pub returns : goal.returns
returns c = last_and_replaced
