use Rattle.hwdb_pattern.proofs.ListLemmas.{advance_step}
use Rattle.hwdb_pattern.proofs.lists.advance.Goals as goal

pub loop-n-preserved : goal.loop-n-preserved
loop-n-preserved c = advance_step c.args.lengths.now c.loop-n.lengths c.loop-n.n-index c.loop-n-test.true c.loop-n.invariant
