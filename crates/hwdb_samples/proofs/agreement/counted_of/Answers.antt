use Rattle.std.proofs.Common.{◌∙◌, ap, List, None, map}
use Rattle.hwdb_samples.specs.Views.{rule_texts}
use Rattle.hwdb_samples.specs.declared.rules.Rule.{Rule}
use Rattle.hwdb_samples.proofs.RuleLemmas.{counted_next, counted_none}
use Rattle.hwdb_samples.proofs.agreement.counted_of.Goals as goal

pub loop-rule-init : goal.loop-rule-init
loop-rule-init c = ap (λ (l : List Rule). (None, map rule_texts l)) c.new.ensures.items ∙ counted_none c.args.pattern.now

pub loop-rule-preserved : goal.loop-rule-preserved
loop-rule-preserved c = counted_next c.args.pattern.now c.args.rules.now c.loop-rule.rule-index _ _ _ c.loop-rule-test.true c.loop-rule.invariant c.in_ok-counted.ensures
