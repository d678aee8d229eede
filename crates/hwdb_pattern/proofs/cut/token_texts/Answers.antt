use Rattle.std.proofs.Common.{arith, ap, length}
use Rattle.std.proofs.lemmas.List.{take_rest, length-drop}
use Rattle.hwdb_pattern.proofs.CutLemmas.{cut_step, cut_end}
use Rattle.hwdb_pattern.proofs.cut.token_texts.Goals as goal

pub loop-at-preserved : goal.loop-at-preserved
loop-at-preserved c = record {
  within = omega (arith, c.token_size-at.ensures.within, ap length (take_rest c.args.pattern.now c.loop-at.at), length-drop c.loop-at.at c.args.pattern.now);
  done = cut_step c.args.pattern.now c.loop-at.texts.items c.push.new.self.items _ c.loop-at.at c.token_size-at.result (take_rest c.args.pattern.now c.loop-at.at)
      (omega (arith, length-drop c.loop-at.at c.args.pattern.now)) c.in_ok-push.ensures.items c.token_size-at.ensures.size c.loop-at.invariant.done;
}

pub returns : goal.returns
returns c = cut_end c.args.pattern.now c.loop-at.texts.items c.loop-at.at c.loop-at-test.false c.loop-at.invariant.done
