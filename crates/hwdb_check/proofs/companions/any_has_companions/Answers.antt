use Rattle.std.proofs.Common.{◌+◌, add-one}
use Rattle.hwdb_text.specs.Views.{given_in}
use Rattle.hwdb_check.specs.Internal.{has_companions, own}
use Rattle.hwdb_check.proofs.companions.any_has_companions.Goals as goal
use Rattle.hwdb_check.specs.Lemmas.Any.{any_found, any_none, any_passed}

pub returns-then-has_companions : goal.returns-then-has_companions
returns-then-has_companions c =
    any_found has_companions (given_in own) c.args.all.now c.loop-given.given-index _ c.has_companions.result _ c.loop-given-test.true c.has_companions.ensures.has c.if-has_companions.true
    c.loop-given.invariant.rest

pub loop-given-preserved : goal.loop-given-preserved
loop-given-preserved c = record {
  rest = any_passed has_companions (given_in own) c.args.all.now c.loop-given.given-index (c.loop-given.given-index + 1) _ c.has_companions.result _ c.loop-given-test.true
      (add-one c.loop-given.given-index) c.has_companions.ensures.has c.if-has_companions.false c.loop-given.invariant.rest;
  last = c.has_companions.ensures.are;
}

pub returns : goal.returns
returns c = any_none has_companions (given_in own) c.args.all.now c.loop-given.given-index _ c.loop-given-test.false c.loop-given.invariant.rest
