use Rattle.std.proofs.Common.{arith}
use Rattle.hwdb_pattern.proofs.TakenLemmas.{shared_more, shared_closed, shared_follows}
use Rattle.hwdb_pattern.proofs.lengths.after_bytes.Goals as goal

pub loop-at-preserved : goal.loop-at-preserved
loop-at-preserved c = record {
  at_in = omega (arith, c.loop-at-test.true);
  shared = shared_more c.args.device.now c.args.text.now c.args.n c.loop-at.at c.loop-at-test.true (omega (arith, c.if-device-n.false, c.loop-at-test.true, c.requires))
      (c.stands_for_itself.ensures.no_star c.if-not-stands_for_itself.false) (c.stands_for_itself.ensures.no_mark c.if-not-stands_for_itself.false)
      (c.stands_for_itself.ensures.no_bracket c.if-not-stands_for_itself.false) c.if-byte-device.false c.loop-at.invariant.shared;
}

pub returns-clause-closed : goal.returns-clause-closed
returns-clause-closed c = shared_closed c.args.device.now c.args.text.now c.args.n c.loop-at.at c.loop-at-test.false c.loop-at.invariant.shared

pub returns-clause-follows : goal.returns-clause-follows
returns-clause-follows c = shared_follows c.args.device.now c.args.text.now c.args.n c.loop-at.at c.loop-at-test.false c.loop-at.invariant.shared
