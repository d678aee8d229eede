use Rattle.hwdb_ruleasks.proofs.NameLemmas.{set_begun, set_next}
use Rattle.hwdb_ruleasks.proofs.names.set_of.Goals as goal

pub loop-text-init : goal.loop-text-init
loop-text-init c = set_begun c.new-set.result c.new-set.ensures.empty

pub loop-text-preserved : goal.loop-text-preserved
loop-text-preserved c = set_next c.args.texts.now c.loop-text.text-index _ c.loop-text.set c.insert.new.self c.loop-text-test.true c.in_ok-insert.ensures.keys c.loop-text.invariant
