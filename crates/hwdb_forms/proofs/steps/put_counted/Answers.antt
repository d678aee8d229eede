use Rattle.std.proofs.Common.{add-one, arith, ◌+◌}
use Rattle.hwdb_forms.proofs.StepLemmas.{counted_begun, counted_done, counted_more}
use Rattle.hwdb_forms.proofs.steps.put_counted.Goals as goal

pub loop-done-init : goal.loop-done-init
loop-done-init c = record { within = omega arith; put = counted_begun c.args.steps.now.items c.args.after c.args.set c.requires }

pub loop-done-preserved : goal.loop-done-preserved
loop-done-preserved c = record {
  within = omega arith;
  put = counted_more c.args.steps.now.items c.loop-done.steps.items _ c.args.after c.loop-done.place _ c.args.set c.loop-done.done (c.loop-done.done + 1) (add-one c.loop-done.done) c.loop-done.invariant.put c.in_ok-place.ensures;
}

pub returns : goal.returns
returns c = counted_done c.args.steps.now.items c.loop-done.steps.items c.args.after c.loop-done.place c.args.set c.loop-done.done c.args.count (omega arith) c.loop-done.invariant.put

pub put_one-requires : goal.put_one-requires
put_one-requires c = c.loop-done.invariant.put.within
