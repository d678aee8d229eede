use Rattle.std.proofs.Common.{arith, refl, ◌-◌}
use Rattle.hwdb_forms.proofs.StepLemmas.{laid_done, laid_end, laid_more, way_of_field}
use Rattle.hwdb_forms.proofs.steps.fields_steps.Goals as goal

pub loop-at-init : goal.loop-at-init
loop-at-init c = record {
  within = omega arith;
  laid = laid_end _ _ _ c.args.fields.now c.new-steps.ensures.items c.in_ok-place.ensures.put c.in_ok-place.ensures.place;
}

pub loop-at-preserved : goal.loop-at-preserved
loop-at-preserved c = record {
  within = omega arith;
  laid = laid_more c.loop-at.steps.items _ c.loop-at.place _ c.args.fields.now c.loop-at.at (c.loop-at.at - 1) _ _ (omega arith) (omega arith) refl c.loop-at.invariant.laid c.in_ok-place-2.ensures;
}

pub returns : goal.returns
returns c = laid_done c.loop-at.steps.items c.loop-at.place c.args.fields.now c.loop-at.at (omega arith) c.loop-at.invariant.laid

pub put_field-requires-clause-after : goal.put_field-requires-clause-after
put_field-requires-clause-after c = c.loop-at.invariant.laid.within

pub put_field-requires-clause-ways : goal.put_field-requires-clause-ways
put_field-requires-clause-ways c = way_of_field c.args.fields.now (c.loop-at.at - 1) _ (omega arith) c.requires
