use Rattle.std.proofs.Common.{arith, refl, ◌-◌}
use Rattle.hwdb_forms.proofs.StepLemmas.{fixed_begun, fixed_done, fixed_more}
use Rattle.hwdb_forms.proofs.steps.put_fixed.Goals as goal

pub loop-at-init : goal.loop-at-init
loop-at-init c = record { within = omega arith; put = fixed_begun c.args.steps.now.items c.args.after c.args.bytes.now c.requires }

pub loop-at-preserved : goal.loop-at-preserved
loop-at-preserved c = record {
  within = omega arith;
  put = fixed_more c.args.steps.now.items c.loop-at.steps.items _ c.args.after c.loop-at.place _ c.args.bytes.now c.loop-at.at (c.loop-at.at - 1) _ (omega arith) (omega arith) refl c.loop-at.invariant.put c.in_ok-place.ensures;
}

pub returns : goal.returns
returns c = fixed_done c.args.steps.now.items c.loop-at.steps.items c.args.after c.loop-at.place c.args.bytes.now c.loop-at.at (omega arith) c.loop-at.invariant.put

pub put_byte-requires : goal.put_byte-requires
put_byte-requires c = c.loop-at.invariant.put.within
