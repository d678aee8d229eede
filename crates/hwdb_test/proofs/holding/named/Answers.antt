use Rattle.hwdb_test.proofs.AboutLemmas.{names_step, no_names}
use Rattle.hwdb_test.proofs.holding.named.Goals as goal

pub loop-line-init : goal.loop-line-init
loop-line-init c = no_names c.new-keys.result c.new-keys.ensures.empty

pub loop-line-preserved : goal.loop-line-preserved
loop-line-preserved c =
    names_step c.args.all.now c.loop-line.line-index _ c.wanted_key.result c.loop-line.keys _ c.loop-line-test.true c.wanted_key.ensures c.in_ok-insert.ensures.updates.0
    c.loop-line.invariant
