use Rattle.std.proofs.Common.{◌∙◌, sym}
use Rattle.std.proofs.lemmas.Result.{on_ok_weaker}
use Rattle.hwdb_rules.specs.Views.{scene_of}
use Rattle.hwdb_rules.proofs.RuleLemmas.{camera_asked, no_camera}
use Rattle.hwdb_rules.proofs.late.camera_rules.Goals as goal

pub returns-then-is_video : goal.returns-then-is_video
returns-then-is_video c =
    on_ok_weaker c.add_camera.result
    (λ e. camera_asked (scene_of c.args.scene.now) _ _ (sym c.is_video.ensures ∙ c.if-is_video.true) e) c.add_camera.ensures

pub returns : goal.returns
returns c = no_camera (scene_of c.args.scene.now) _ (sym c.is_video.ensures ∙ c.if-is_video.false)
