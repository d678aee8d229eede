use Rattle.std.proofs.Common.{◌∙◌, map}
use Rattle.std.proofs.lemmas.Result.{IfOk-weaker}
use Rattle.hwdb_databases.specs.Views.{change_shown}
use Rattle.hwdb_databases.proofs.UnmetLemmas.{left_is}
use Rattle.hwdb_databases.proofs.unmet.unmet_changes.Goals as goal

pub returns : goal.returns
returns c =
    IfOk-weaker c.left_changes.result _ _
    (λ left is. is ∙ left_is (map (λ d. d.now) c.args.devices.now) c.args.sides.old.now c.args.sides.new.now c.in_ok-still.still (map change_shown c.args.changes.now) c.in_ok-still.ensures)
    c.left_changes.ensures
