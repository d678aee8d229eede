use Rattle.hwdb_tool.proofs.FailureLemmas.{at_greatest}
use Rattle.hwdb_tool.proofs.failures.counts_tell_failures.Goals as goal

pub returns : goal.returns
returns c = at_greatest
