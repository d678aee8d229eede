use Rattle.std.proofs.Common.{arith, add-one, drop, ◌+◌}
use Rattle.hwdb_forms.specs.Internal.{views}
use Rattle.hwdb_forms.proofs.LeadLemmas.{fixed_ends, fixed_goes_on, fixed_no, fixed_star, fixed_yes}
use Rattle.hwdb_forms.proofs.leads.pass_fixed.Goals as goal

pub returns-then-at-tokens-clause-passed : goal.returns-then-at-tokens-clause-passed
returns-then-at-tokens-clause-passed c = fixed_ends c.args.bytes.now c.args.tokens.now c.loop-at.at _ (omega arith) (omega arith) c.loop-at.invariant.rest

pub returns-then-begins_star-clause-passed : goal.returns-then-begins_star-clause-passed
returns-then-begins_star-clause-passed c =
    fixed_star c.args.bytes.now c.args.tokens.now c.loop-at.at c.begins_star.result _ (omega arith) (omega arith) c.begins_star.ensures c.if-begins_star.true c.loop-at.invariant.rest

pub returns-then-not-meets_byte-clause-passed : goal.returns-then-not-meets_byte-clause-passed
returns-then-not-meets_byte-clause-passed c =
    fixed_no c.args.bytes.now c.args.tokens.now c.loop-at.at c.begins_star.result c.meets_byte.result _ (omega arith) (omega arith) c.begins_star.ensures c.if-begins_star.false
    c.meets_byte.ensures c.if-not-meets_byte.true c.loop-at.invariant.rest

pub loop-at-preserved : goal.loop-at-preserved
loop-at-preserved c = record {
  within = omega arith;
  rest = fixed_goes_on c.args.bytes.now c.args.tokens.now c.loop-at.at (c.loop-at.at + 1) c.begins_star.result c.meets_byte.result _ (omega arith) (omega arith) (add-one c.loop-at.at) c.begins_star.ensures c.if-begins_star.false
      c.meets_byte.ensures c.if-not-meets_byte.false c.loop-at.invariant.rest;
}

pub returns-clause-passed : goal.returns-clause-passed
returns-clause-passed c = fixed_yes c.args.bytes.now (drop c.loop-at.at (views c.args.tokens.now)) c.loop-at.at _ (omega arith) c.loop-at.invariant.rest
