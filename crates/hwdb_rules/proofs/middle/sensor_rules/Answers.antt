use Rattle.std.proofs.Common.{◌∙◌, ◌++◌, ap, codes}
use Rattle.std.proofs.lemmas.Result.{on_ok_weaker}
use Rattle.hwdb_rules.specs.Internal.{one_plan}
use Rattle.hwdb_rules.specs.Views.{plans_of}
use Rattle.hwdb_rules.proofs.middle.sensor_rules.Goals as goal

pub returns : goal.returns
returns c =
    on_ok_weaker c.add_plan.result
    (λ e. e ∙ ap (λ q. plans_of c.args.plans.now.items ++ one_plan (codes "60-sensor") q) c.in_ok-questions.ensures) c.add_plan.ensures
