use Rattle.std.proofs.Common.{arith, add-one, sym, ◌∙◌, ◌+◌}
use Rattle.hwdb_forms.proofs.PlainLemmas.{counted_more, counted_through, cut_more}
use Rattle.hwdb_forms.proofs.plain.plain_count.Goals as goal

pub loop-at-preserved : goal.loop-at-preserved
loop-at-preserved c = record {
  most = omega arith;
  within = omega arith;
  cut = cut_more c.args.text.now c.loop-at.at (c.loop-at.at + 1) (omega arith) (add-one c.loop-at.at) (sym c.is_wild.ensures ∙ c.if-is_wild.false) c.loop-at.invariant.cut;
  passed = counted_more c.args.set c.args.text.now c.loop-at.at (c.loop-at.at + 1) (omega arith) (add-one c.loop-at.at) (sym c.has.ensures ∙ c.if-not-has.false) (sym c.is_wild.ensures ∙ c.if-is_wild.false) c.loop-at.invariant.passed;
}

pub returns-then-at-text-clause-passed : goal.returns-then-at-text-clause-passed
returns-then-at-text-clause-passed c = counted_through c.args.set c.args.text.now c.loop-at.at c.loop-at.invariant.passed

pub returns-then-is_wild-clause-passed : goal.returns-then-is_wild-clause-passed
returns-then-is_wild-clause-passed c = counted_through c.args.set c.args.text.now c.loop-at.at c.loop-at.invariant.passed

pub returns-then-not-has-clause-passed : goal.returns-then-not-has-clause-passed
returns-then-not-has-clause-passed c = counted_through c.args.set c.args.text.now c.loop-at.at c.loop-at.invariant.passed

pub returns-clause-passed : goal.returns-clause-passed
returns-clause-passed c = counted_through c.args.set c.args.text.now c.loop-at.at c.loop-at.invariant.passed
