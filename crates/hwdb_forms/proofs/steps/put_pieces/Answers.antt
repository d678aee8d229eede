use Rattle.std.proofs.Common.{arith, refl, ◌-◌}
use Rattle.hwdb_forms.proofs.StepLemmas.{pieces_begun, pieces_done, pieces_more}
use Rattle.hwdb_forms.proofs.steps.put_pieces.Goals as goal

pub loop-at-init : goal.loop-at-init
loop-at-init c = record { within = omega arith; put = pieces_begun c.args.steps.now.items c.args.after c.args.pieces.now c.requires }

pub loop-at-preserved : goal.loop-at-preserved
loop-at-preserved c = record {
  within = omega arith;
  put = pieces_more c.args.steps.now.items c.loop-at.steps.items _ c.args.after c.loop-at.place _ c.args.pieces.now c.loop-at.at (c.loop-at.at - 1) _ _ (omega arith) (omega arith) refl c.loop-at.invariant.put c.in_ok-place.ensures;
}

pub returns : goal.returns
returns c = pieces_done c.args.steps.now.items c.loop-at.steps.items c.args.after c.loop-at.place c.args.pieces.now c.loop-at.at (omega arith) c.loop-at.invariant.put

pub put_piece-requires : goal.put_piece-requires
put_piece-requires c = c.loop-at.invariant.put.within
