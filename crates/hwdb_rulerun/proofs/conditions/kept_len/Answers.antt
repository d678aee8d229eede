use Rattle.std.proofs.Common.{arith}
use Rattle.hwdb_rulerun.proofs.BackLemmas.{kept_none, kept_back}
use Rattle.hwdb_rulerun.proofs.conditions.kept_len.Goals as goal

pub loop-at-init : goal.loop-at-init
loop-at-init c = record {
  at_in = omega arith;
  small = omega arith;
  same = kept_none c.args.text.now;
}

pub loop-at-preserved : goal.loop-at-preserved
loop-at-preserved c = record {
  at_in = omega arith;
  small = omega arith;
  same = kept_back c.args.text.now c.loop-at.at c.loop-at.len _ c.loop-at-test.true c.loop-at.invariant.at_in c.loop-at.invariant.same c.kept_more-len.ensures.value;
}
