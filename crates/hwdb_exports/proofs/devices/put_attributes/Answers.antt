use Rattle.hwdb_spec_commands.specs.Exports as spec
use Rattle.hwdb_exports.specs.Views.{exported, spot_at}
use Rattle.hwdb_exports.proofs.StepLemmas.{no_rule, rule_step}
use Rattle.hwdb_exports.proofs.devices.put_attributes.Goals as goal

pub loop-rule-preserved : goal.loop-rule-preserved
loop-rule-preserved c = λ path.
    rule_step (spec.attribute_spot (exported c.args.device.now).path (exported c.args.device.now).lines) path (spot_at c.loop-rule.spots path) (spot_at c.put_attribute.new.spots path) _ c.in-Some.rule.now _ _
    c.in-Some.ensures.steps (c.in_ok-put_attribute.ensures path) (c.loop-rule.invariant path)

pub returns : goal.returns
returns c = λ path.
    no_rule (spec.attribute_spot (exported c.args.device.now).path (exported c.args.device.now).lines) path (spot_at c.loop-rule.spots path) _ _ c.in-None.ensures.steps.0 (c.loop-rule.invariant path)
