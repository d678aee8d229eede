use Rattle.hwdb_samples.proofs.RuleLemmas.{given_next, given_none}
use Rattle.hwdb_samples.proofs.rules.given.Goals as goal

pub loop-rule-init : goal.loop-rule-init
loop-rule-init c = given_none c.args.device.now

pub loop-rule-preserved : goal.loop-rule-preserved
loop-rule-preserved c = given_next c.args.device.now c.args.rules.now c.loop-rule.rule-index _ _ _ c.loop-rule-test.true c.loop-rule.invariant c.after_rule-found.ensures
