use Rattle.std.proofs.lemmas.Result.{on_ok_weaker}
use Rattle.hwdb_rules.specs.Internal.{found_at}
use Rattle.hwdb_rules.specs.Views.{scene_of}
use Rattle.hwdb_rules.proofs.RuleLemmas.{named}
use Rattle.hwdb_rules.proofs.early.named_rules.Goals as goal

pub returns : goal.returns
returns c =
    on_ok_weaker c.add_phys.result
    (λ e. named (scene_of c.args.scene.now) (found_at c.in-Some.at) _ _ _ c.in-Some.ensures c.in_ok-add_name.ensures e) c.add_phys.ensures
