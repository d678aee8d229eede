use Rattle.std.proofs.Common.{arith, refl, ◌-◌, length}
use Rattle.hwdb_forms.proofs.StepLemmas.{put_grown, ways_begun, ways_done, ways_more}
use Rattle.hwdb_forms.proofs.steps.put_field.Goals as goal

pub loop-at-init : goal.loop-at-init
loop-at-init c = record {
  within = omega arith;
  put = ways_begun c.args.steps.now.items _ c.args.after _ c.args.field.now (length c.args.field.now - 1) _ _ (omega arith) refl c.in_ok-place.ensures;
}

pub loop-at-preserved : goal.loop-at-preserved
loop-at-preserved c = record {
  within = omega arith;
  put = ways_more c.args.steps.now.items c.loop-at.steps.items _ _ c.args.after c.loop-at.place _ _ c.args.field.now c.loop-at.at (c.loop-at.at - 1) _ _ c.requires.after (omega arith) (omega arith) refl c.loop-at.invariant.put c.in_ok-way.ensures
      c.in_ok-place-2.ensures.put c.in_ok-place-2.ensures.place;
}

pub returns : goal.returns
returns c = ways_done c.args.steps.now.items c.loop-at.steps.items c.args.after c.loop-at.place c.args.field.now c.loop-at.at (omega arith) c.loop-at.invariant.put

pub put_pieces-requires-in-loop-at : goal.put_pieces-requires-in-loop-at
put_pieces-requires-in-loop-at c = put_grown c.args.steps.now.items c.loop-at.steps.items c.args.after c.loop-at.place _ c.requires.after c.loop-at.invariant.put
