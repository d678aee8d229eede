use Rattle.std.proofs.Common.{sym, ◌∙◌}
use Rattle.hwdb_exports.proofs.StepLemmas.{own_all, own_here, own_past}
use Rattle.hwdb_exports.proofs.lines.own_lines.Goals as goal
use Rattle.hwdb_exports.proofs.lines.own_lines.Goals.{then-loop-end-test+else-not-begins_device, else-loop-end-test}

pub returns : goal.returns
returns c =
    own_all c.args.lines.now c.loop-end.end _ c.loop-end.invariant.same
    (elim c.loop-end-test.branch [
      | then-loop-end-test+else-not-begins_device w ↦ own_here c.args.lines.now c.loop-end.end _ w.loop-end-test.true (sym w.begins_device.ensures ∙ w.if-not-begins_device.false)
      | else-loop-end-test w ↦ own_past c.args.lines.now c.loop-end.end w.loop-end-test.false
    ])
