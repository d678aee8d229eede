use Rattle.std.proofs.Common.{◌∙◌, sym}
use Rattle.std.proofs.lemmas.Result.{on_ok_weaker}
use Rattle.hwdb_rules.specs.Views.{scene_of}
use Rattle.hwdb_rules.proofs.RuleLemmas.{net_asked}
use Rattle.hwdb_rules.proofs.late.net_rules.Goals as goal

pub returns : goal.returns
returns c =
    on_ok_weaker c.address_rule.result
    (λ e. net_asked (scene_of c.args.scene.now) _ _ _ _ (sym c.is_in.ensures ∙ c.if-not-is_in.false) c.in_ok-driver_rule.ensures c.in_ok-add_along_bus.ensures e)
    c.address_rule.ensures
