use Rattle.std.proofs.Common.{◌∙◌, ap}
use Rattle.std.proofs.lemmas.Result.{IfOk-weaker}
use Rattle.hwdb_spec_commands.specs.Summary.{depth}
use Rattle.hwdb_tool.proofs.progress.depth.Goals as goal

pub returns-in-Ok : goal.returns-in-Ok
returns-in-Ok c =
    IfOk-weaker c.depth_of.result _ _ (λ n deepest. λ t is. deepest ∙ ap depth (c.law_one_tree.ensures c.args.database.now c.in-Ok.db t c.in-Ok.ensures.accepted is)) c.depth_of.ensures
