use Rattle.std.proofs.Common.{arith, ap, length, ◌-◌}
use Rattle.std.proofs.lemmas.List.{take_rest, length-drop}
use Rattle.hwdb_pattern.proofs.CutLemmas.{size_step, size_at_end}
use Rattle.hwdb_pattern.proofs.cut.front_size.Goals as goal

pub loop-left-preserved : goal.loop-left-preserved
loop-left-preserved c = record {
  within = omega (arith, c.token_size-at.ensures.within, ap length (take_rest c.args.pattern.now c.loop-left.at), length-drop c.loop-left.at c.args.pattern.now);
  sum = size_step c.args.pattern.now c.loop-left.at c.loop-left.left c.token_size-at.result (c.loop-left.left - 1) _ _ (omega arith) (take_rest c.args.pattern.now c.loop-left.at)
      (omega (arith, length-drop c.loop-left.at c.args.pattern.now)) c.token_size-at.ensures.size c.loop-left.invariant.sum;
}

pub returns-else-at-pattern : goal.returns-else-at-pattern
returns-else-at-pattern c = size_at_end c.args.pattern.now c.loop-left.at c.loop-left.left _ (omega arith) c.loop-left.invariant.sum
