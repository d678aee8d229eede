use Rattle.std.proofs.Common.{◌∙◌, sym}
use Rattle.std.proofs.lemmas.Result.{on_ok_weaker}
use Rattle.hwdb_rules.specs.Views.{scene_of}
use Rattle.hwdb_rules.proofs.RuleLemmas.{battery_asked, no_battery}
use Rattle.hwdb_rules.proofs.middle.battery_rules.Goals as goal

pub returns-then-is_battery : goal.returns-then-is_battery
returns-then-is_battery c =
    on_ok_weaker c.add_battery.result
    (λ e. battery_asked (scene_of c.args.scene.now) _ _ (sym c.is_battery.ensures ∙ c.if-is_battery.true) e) c.add_battery.ensures

pub returns : goal.returns
returns c = no_battery (scene_of c.args.scene.now) _ (sym c.is_battery.ensures ∙ c.if-is_battery.false)
