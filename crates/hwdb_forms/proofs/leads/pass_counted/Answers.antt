use Rattle.std.proofs.Common.{arith, add-one, ◌+◌, ◌-◌}
use Rattle.hwdb_forms.proofs.LeadLemmas.{counted_ends, counted_goes_on, counted_no, counted_star, counted_yes}
use Rattle.hwdb_forms.proofs.leads.pass_counted.Goals as goal

pub returns-then-at-tokens-clause-passed : goal.returns-then-at-tokens-clause-passed
returns-then-at-tokens-clause-passed c = counted_ends c.args.set (c.args.count - c.loop-at.at) (c.args.count - c.loop-at.at - 1) c.loop-at.at c.args.tokens.now _ (omega arith) (omega arith) c.loop-at.invariant.rest

pub returns-then-begins_star-clause-passed : goal.returns-then-begins_star-clause-passed
returns-then-begins_star-clause-passed c =
    counted_star c.args.set (c.args.count - c.loop-at.at) (c.args.count - c.loop-at.at - 1) c.loop-at.at c.args.tokens.now c.begins_star.result _ (omega arith) (omega arith) c.begins_star.ensures c.if-begins_star.true c.loop-at.invariant.rest

pub returns-then-not-meets-clause-passed : goal.returns-then-not-meets-clause-passed
returns-then-not-meets-clause-passed c =
    counted_no c.args.set (c.args.count - c.loop-at.at) (c.args.count - c.loop-at.at - 1) c.loop-at.at c.args.tokens.now c.begins_star.result c.meets.result _ (omega arith) (omega arith) c.begins_star.ensures c.if-begins_star.false
    c.meets.ensures c.if-not-meets.true c.loop-at.invariant.rest

pub loop-at-preserved : goal.loop-at-preserved
loop-at-preserved c = record {
  within = omega arith;
  most = omega arith;
  rest = counted_goes_on c.args.set (c.args.count - c.loop-at.at) (c.args.count - (c.loop-at.at + 1)) c.loop-at.at (c.loop-at.at + 1) c.args.tokens.now c.begins_star.result c.meets.result _ (omega arith) (omega arith) (add-one c.loop-at.at)
      c.begins_star.ensures c.if-begins_star.false c.meets.ensures c.if-not-meets.false c.loop-at.invariant.rest;
}

pub returns-clause-passed : goal.returns-clause-passed
returns-clause-passed c = counted_yes c.args.set (c.args.count - c.loop-at.at) _ _ (omega arith) c.loop-at.invariant.rest
