use Rattle.std.proofs.Common.{arith, sym, ◌∙◌}
use Rattle.hwdb_samples.proofs.OverlapLemmas.{apart_begun, apart_differ, apart_ended, apart_next, apart_one, apart_other}
use Rattle.hwdb_samples.proofs.overlap.apart.Goals as goal

pub returns-then-at-other : goal.returns-then-at-other
returns-then-at-other c = sym (c.loop-at.invariant.same ∙ apart_ended c.args.one.now c.args.other.now c.loop-at.at c.if-at-other.true)

pub returns-then-not-is_plain : goal.returns-then-not-is_plain
returns-then-not-is_plain c = sym (c.loop-at.invariant.same ∙ apart_one c.args.one.now c.args.other.now c.loop-at.at c.loop-at-test.true (omega (arith, c.if-at-other.false)) c.if-not-is_plain.ensures)

pub returns-then-not-is_plain-2 : goal.returns-then-not-is_plain-2
returns-then-not-is_plain-2 c = sym (c.loop-at.invariant.same ∙ apart_other c.args.one.now c.args.other.now c.loop-at.at c.loop-at-test.true (omega (arith, c.if-at-other.false)) c.if-not-is_plain-2.ensures)

pub returns-then-one-at : goal.returns-then-one-at
returns-then-one-at c =
    sym (c.loop-at.invariant.same ∙ apart_differ c.args.one.now c.args.other.now c.loop-at.at c.loop-at-test.true (omega (arith, c.if-at-other.false)) c.if-not-is_plain.ensures c.if-not-is_plain-2.ensures c.if-one-at.true)

pub loop-at-preserved : goal.loop-at-preserved
loop-at-preserved c = record {
  in_one = omega (arith, c.loop-at-test.true);
  in_other = omega (arith, c.if-at-other.false);
  same = c.loop-at.invariant.same ∙ apart_next c.args.one.now c.args.other.now c.loop-at.at c.loop-at-test.true (omega (arith, c.if-at-other.false)) c.if-not-is_plain.ensures c.if-not-is_plain-2.ensures c.if-one-at.false;
}

pub returns : goal.returns
returns c = sym (c.loop-at.invariant.same ∙ apart_begun c.args.one.now c.args.other.now c.loop-at.at c.loop-at-test.false)
