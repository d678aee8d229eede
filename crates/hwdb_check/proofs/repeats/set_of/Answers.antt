use Rattle.std.proofs.Common.{refl}
use Rattle.hwdb_check.proofs.RepeatLemmas.{set_step}
use Rattle.hwdb_check.proofs.repeats.set_of.Goals as goal

pub loop-number-preserved : goal.loop-number-preserved
loop-number-preserved c =
    set_step c.args.numbers.now c.loop-number.number-index _ c.loop-number.set _ c.loop-number-test.true refl c.loop-number.invariant c.in_ok-insert.ensures.updates.0
