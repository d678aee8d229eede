use Rattle.std.proofs.Common.{◌≡◌, ◌+◌, ◌∙◌, add-one, arith, false, sym, true}
use Rattle.hwdb_spec.specs.Forms.{Form}
use Rattle.hwdb_forms.specs.Internal.{HasWays, form_of, views}
use Rattle.hwdb_forms.proofs.AnswerLemmas.{form_found, form_passed, no_form}
use Rattle.hwdb_forms.proofs.FrontLemmas.{views_long}
use Rattle.hwdb_forms.proofs.LongestLemmas.{every_at, front_all, front_begun, front_next, match_begun}
use Rattle.hwdb_forms.proofs.judging.reach.Goals as goal

pub loop-form-init : goal.loop-form-init
loop-form-init c = record {
  front = front_begun _ form_of c.args.forms.now (views c.args.tokens.now);
  met = match_begun _ form_of c.args.forms.now (views c.args.tokens.now);
}

pub reach_with-requires-clause-low : goal.reach_with-requires-clause-low
reach_with-requires-clause-low c = omega (arith, c.loop-form.invariant.front.within, views_long c.args.tokens.now)

pub reach_with-requires-clause-ways : goal.reach_with-requires-clause-ways
reach_with-requires-clause-ways c = every_at _ Form form_of HasWays c.args.forms.now c.loop-form.form-index _ (omega arith) c.requires

pub loop-form-preserved : goal.loop-form-preserved
loop-form-preserved c = record {
  front = front_next _ form_of c.args.forms.now c.loop-form.form-index (c.loop-form.form-index + 1) _ (views c.args.tokens.now) _ (omega arith) (add-one c.loop-form.form-index) (c.in_ok-far.ensures.front _ c.loop-form.invariant.front);
  met = form_passed _ form_of c.args.forms.now c.loop-form.form-index (c.loop-form.form-index + 1) _ (views c.args.tokens.now) c.in_ok-far.far.is_met _ (omega arith) (add-one c.loop-form.form-index) c.in_ok-far.ensures.met c.if-far.false c.loop-form.invariant.met;
}

pub returns-then-far-clause-met : goal.returns-then-far-clause-met
returns-then-far-clause-met c =
    c.if-far.true ∙ form_found _ form_of c.args.forms.now c.loop-form.form-index _ (views c.args.tokens.now) c.in_ok-far.far.is_met _ (omega arith) c.in_ok-far.ensures.met c.if-far.true c.loop-form.invariant.met

pub returns-then-far-clause-front : goal.returns-then-far-clause-front
returns-then-far-clause-front c = λ e. absurd (let clash : true ≡ false = sym c.if-far.true ∙ e in cc)

pub returns-clause-met : goal.returns-clause-met
returns-clause-met c = no_form _ form_of c.args.forms.now c.loop-form.form-index (views c.args.tokens.now) _ c.loop-form-test.false c.loop-form.invariant.met

pub returns-clause-front : goal.returns-clause-front
returns-clause-front c = λ e. front_all _ form_of c.args.forms.now c.loop-form.form-index (views c.args.tokens.now) _ c.loop-form-test.false c.loop-form.invariant.front
