use Rattle.hwdb_samples.proofs.RuleLemmas.{lasts_begun, lasts_next}
use Rattle.hwdb_samples.proofs.changes.lasts.Goals as goal

pub loop-rule-init : goal.loop-rule-init
loop-rule-init c = lasts_begun c.new-lasts.result c.new-lasts.ensures.empty

pub loop-rule-preserved : goal.loop-rule-preserved
loop-rule-preserved c =
    lasts_next c.args.rules.now c.loop-rule.rule-index _ c.loop-rule.lasts c.insert.new.self c.loop-rule-test.true (λ q. c.in_ok-insert.ensures.updates.0 (record { ref_ptr = (0, 0); now = q })) c.loop-rule.invariant
