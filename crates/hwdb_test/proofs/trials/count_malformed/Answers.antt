use Rattle.hwdb_test.proofs.FileLemmas.{counted_step}
use Rattle.hwdb_test.proofs.trials.count_malformed.Goals as goal

pub loop-fault-preserved : goal.loop-fault-preserved
loop-fault-preserved c =
    counted_step c.args.wrong.now c.loop-fault.fault-index c.args.held.now.items c.loop-fault.held.items c.count_fault.new.held.items c.loop-fault-test.true c.in_ok-count_fault.ensures c.loop-fault.invariant
