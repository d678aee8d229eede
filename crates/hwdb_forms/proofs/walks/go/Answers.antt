use Rattle.std.proofs.Common.{◌+◌, ◌∙◌, add-one, arith, length, sym}
use Rattle.hwdb_forms.specs.Internal.{met_at, places, views}
use Rattle.hwdb_forms.proofs.StepLemmas.{places_long}
use Rattle.hwdb_forms.proofs.WalkLemmas.{all_far, all_met, stopped_far, stopped_met, walk_begun, walk_more}
use Rattle.hwdb_forms.proofs.walks.go.Goals as goal

pub loop-at-init : goal.loop-at-init
loop-at-init c = record {
  within = omega arith;
  long = c.in_ok-now.ensures.long;
  met = λ us. walk_begun (met_at (places c.args.steps.now) c.args.entry) c.args.tokens.now (places c.args.steps.now) c.in_ok-now.now.items us (c.in_ok-now.ensures.met us);
  some = λ h. absurd (omega arith);
}

pub loop-at-preserved : goal.loop-at-preserved
loop-at-preserved c = record {
  within = omega arith;
  long = c.in_ok-now-2.ensures.long;
  met = walk_more (met_at (places c.args.steps.now) c.args.entry) c.args.tokens.now (places c.args.steps.now) c.loop-at.now.items c.in_ok-now-2.now.items c.loop-at.at (c.loop-at.at + 1) _ (add-one c.loop-at.at) (omega arith) c.in_ok-now-2.ensures.met c.loop-at.invariant.met;
  some = λ h. let k = c.is_none.ensures.some c.if-is_none.false (places c.args.steps.now) (omega (arith, places_long c.args.steps.now, c.in_ok-now-2.ensures.long, c.deref.ensures.value)) c.requires.live in let e = c.deref.ensures.value in cc;
}

pub returns-then-is_none-clause-met : goal.returns-then-is_none-clause-met
returns-then-is_none-clause-met c = stopped_met (met_at (places c.args.steps.now) c.args.entry) c.args.tokens.now (places c.args.steps.now) c.loop-at.now.items c.in_ok-now-2.now.items c.loop-at.at _ (omega arith) c.in_ok-now-2.ensures.met c.loop-at.invariant.met
    (λ us. let k = c.is_none.ensures.none c.if-is_none.true (places c.args.steps.now) us in let e = c.deref.ensures.value in cc)

pub returns-then-is_none-clause-far : goal.returns-then-is_none-clause-far
returns-then-is_none-clause-far c = stopped_far (met_at (places c.args.steps.now) c.args.entry) c.args.tokens.now (places c.args.steps.now) c.loop-at.now.items c.in_ok-now-2.now.items c.loop-at.at _ (omega arith) c.in_ok-now-2.ensures.met c.loop-at.invariant.met c.loop-at.invariant.some
    (λ us. let k = c.is_none.ensures.none c.if-is_none.true (places c.args.steps.now) us in let e = c.deref.ensures.value in cc)

pub returns-clause-met : goal.returns-clause-met
returns-clause-met c = all_met (met_at (places c.args.steps.now) c.args.entry) c.args.tokens.now (places c.args.steps.now) c.loop-at.now.items c.loop-at.at (omega arith) c.loop-at.invariant.met

pub returns-clause-far : goal.returns-clause-far
returns-clause-far c = all_far (met_at (places c.args.steps.now) c.args.entry) c.args.tokens.now (places c.args.steps.now) c.loop-at.now.items c.loop-at.at c.loop-at.invariant.within (omega arith) c.loop-at.invariant.met c.loop-at.invariant.some
