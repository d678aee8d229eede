use Rattle.std.proofs.Common.{◌∙◌, sym}
use Rattle.std.proofs.lemmas.Result.{on_ok_weaker}
use Rattle.hwdb_rules.specs.Views.{scene_of}
use Rattle.hwdb_rules.proofs.RuleLemmas.{serial_asked}
use Rattle.hwdb_rules.proofs.middle.serial_rules.Goals as goal

pub returns : goal.returns
returns c =
    on_ok_weaker c.add_along_bus.result
    (λ e. serial_asked (scene_of c.args.scene.now) _ _ (sym c.is_in.ensures ∙ c.if-not-is_in.false) e) c.add_along_bus.ensures
