use Rattle.std.proofs.Common.{map}
use Rattle.hwdb_test.specs.Views.{given_at}
use Rattle.hwdb_test.proofs.AboutLemmas.{without_step}
use Rattle.hwdb_test.proofs.holding.without_keys.Goals as goal

pub loop-given-preserved : goal.loop-given-preserved
loop-given-preserved c =
    without_step c.args.keys.now c.args.found.now c.loop-given.given-index _ (map given_at c.loop-given.list.items) (map given_at c.push_if_unnamed.new.list.items) c.loop-given-test.true
    c.in_ok-push_if_unnamed.ensures c.loop-given.invariant
