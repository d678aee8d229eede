use Rattle.std.proofs.Common.{◌∙◌, ◌-◌, ap, arith, sym}
use Rattle.hwdb_spec_commands.specs.Mends.{mended_in}
use Rattle.hwdb_check.specs.Mending.{outcome}
use Rattle.hwdb_check.proofs.MendLemmas.{by_step, no_step}
use Rattle.hwdb_check.proofs.mends.mended_in_steps.Goals as goal

pub returns-in-Unknown : goal.returns-in-Unknown
returns-in-Unknown c =
    sym (ap (λ m. outcome (mended_in (c.loop-steps.steps - 1)) m) c.in-Unknown.is)
    ∙ by_step c.loop-steps.steps c.loop-steps.text.items c.deref.result.now c.loop-steps.at _ c.in_ok-mend_once.field-0 (omega (arith, c.loop-steps-test.true))
    c.deref.ensures.value c.loop-steps.invariant.same c.in_ok-mend_once.ensures

pub returns-in-Sure : goal.returns-in-Sure
returns-in-Sure c =
    sym (ap (λ m. outcome (mended_in (c.loop-steps.steps - 1)) m) c.in-Sure.is)
    ∙ by_step c.loop-steps.steps c.loop-steps.text.items c.deref.result.now c.loop-steps.at _ c.in_ok-mend_once.field-0 (omega (arith, c.loop-steps-test.true))
    c.deref.ensures.value c.loop-steps.invariant.same c.in_ok-mend_once.ensures

pub loop-steps-preserved : goal.loop-steps-preserved
loop-steps-preserved c = record {
  within = let h = c.loop-steps.invariant.within in omega (arith, h);
  same =
      sym (ap (λ m. outcome (mended_in (c.loop-steps.steps - 1)) m) c.in-Later.is)
      ∙ by_step c.loop-steps.steps c.loop-steps.text.items c.deref.result.now c.loop-steps.at _ c.in_ok-mend_once.field-0 (omega (arith, c.loop-steps-test.true))
      c.deref.ensures.value c.loop-steps.invariant.same c.in_ok-mend_once.ensures;
}

pub returns : goal.returns
returns c = no_step c.loop-steps.steps c.loop-steps.text.items c.loop-steps.at _ (omega (arith, c.loop-steps-test.false)) c.loop-steps.invariant.same
