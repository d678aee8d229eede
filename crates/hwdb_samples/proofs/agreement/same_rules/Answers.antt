use Rattle.std.proofs.Common.{[], arith, sym, ◌∙◌}
use Rattle.hwdb_samples.proofs.RuleLemmas.{rules_differ, rules_fewer, rules_more, rules_next}
use Rattle.hwdb_samples.proofs.agreement.same_rules.Goals as goal

pub returns-then-at-other : goal.returns-then-at-other
returns-then-at-other c = sym (c.loop-at.invariant.same ∙ rules_more c.args.one.now c.args.other.now c.loop-at.at (record { pattern = record { ref_ptr = (0, 0); now = [] }; value = record { ref_ptr = (0, 0); now = [] } }) c.loop-at-test.true c.if-at-other.true)

pub returns-then-not-same_rule : goal.returns-then-not-same_rule
returns-then-not-same_rule c = sym (c.loop-at.invariant.same ∙ rules_differ c.args.one.now c.args.other.now c.loop-at.at _ _ c.loop-at-test.true (omega (arith, c.if-at-other.false)) c.if-not-same_rule.ensures)

pub loop-at-preserved : goal.loop-at-preserved
loop-at-preserved c = record {
  in_one = omega (arith, c.loop-at-test.true);
  in_other = omega (arith, c.if-at-other.false);
  same = c.loop-at.invariant.same ∙ rules_next c.args.one.now c.args.other.now c.loop-at.at _ _ c.loop-at-test.true (omega (arith, c.if-at-other.false)) c.if-not-same_rule.ensures;
}

pub returns : goal.returns
returns c = rules_fewer c.args.one.now c.args.other.now c.loop-at.at c.loop-at-test.false c.loop-at.invariant.in_other ∙ sym c.loop-at.invariant.same
