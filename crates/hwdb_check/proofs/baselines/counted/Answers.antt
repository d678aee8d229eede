use Rattle.std.proofs.Common.{◌∙◌, Global, Vec, ap, rules, ℕ}
use Rattle.hwdb_check.proofs.CountLemmas.{all_counted, next_counted, room_for}
use Rattle.hwdb_check.proofs.baselines.counted.Goals as goal

pub count-requires : goal.count-requires
count-requires c = record { room = room_for c.args.known.now c.loop-mark.mark-index c.loop-mark.left c.as_slice.result.now c.loop-mark-test.true (search rules) c.loop-mark.invariant }

pub loop-mark-preserved : goal.loop-mark-preserved
loop-mark-preserved c =
    next_counted c.args.known.now c.loop-mark.mark-index _ c.as_slice.result.now c.loop-mark.left c.count.new.left c.loop-mark-test.true (c.as_slice.ensures.value ∙ ap (λ (t : Vec ℕ Global). t.items) c.mark-item.is) c.loop-mark.invariant c.in_ok-count.ensures

pub returns : goal.returns
returns c = all_counted c.args.known.now c.loop-mark.mark-index c.loop-mark.left c.loop-mark-test.false c.loop-mark.invariant
