use Rattle.std.proofs.lemmas.Result.{on_ok_weaker}
use Rattle.hwdb_rules.specs.Views.{scene_of}
use Rattle.hwdb_rules.proofs.RuleLemmas.{battery_step}
use Rattle.hwdb_rules.proofs.middle.add_battery.Goals as goal

pub returns : goal.returns
returns c =
    on_ok_weaker c.add_one.result
    (λ e. battery_step (scene_of c.args.scene.now) _ _ _ _ c.itself.ensures c.in_ok-text.ensures e) c.add_one.ensures
