use Rattle.std.proofs.Common.{map}
use Rattle.hwdb_check.proofs.CountLemmas.{all_put, next_put, none_put}
use Rattle.hwdb_check.proofs.baselines.unknown_of.Goals as goal

pub loop-one-init : goal.loop-one-init
loop-one-init c = none_put (map (λ t. t.items) c.args.known.now) c.args.found.now c.in_ok-left.left c.new-new.result.items c.new-new.ensures.items c.in_ok-left.ensures

pub loop-one-preserved : goal.loop-one-preserved
loop-one-preserved c =
    next_put (map (λ t. t.items) c.args.known.now) c.args.found.now c.loop-one.left c.loop-one.one-index c.one-item.result c.loop-one-test.true c.one-item.is c.loop-one.invariant
    c.in_ok-put_if_new.ensures.put c.in_ok-put_if_new.ensures.left

pub returns : goal.returns
returns c = all_put (map (λ t. t.items) c.args.known.now) c.args.found.now c.loop-one.left c.loop-one.one-index c.loop-one-test.false c.loop-one.invariant
