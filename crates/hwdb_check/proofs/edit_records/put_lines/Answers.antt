use Rattle.hwdb_check.specs.Patching.{edit_of, edits_of}
use Rattle.hwdb_check.proofs.EditRecordLemmas.{line_put}
use Rattle.hwdb_check.proofs.edit_records.put_lines.Goals as goal

pub loop-edit-preserved : goal.loop-edit-preserved
loop-edit-preserved c =
    line_put c.args.own.now c.args.lines.now c.loop-edit.edit-index c.edit-item.result (edit_of c.in_ok-now.now) (edits_of c.args.all.now.items) (edits_of c.loop-edit.all.items) _ c.loop-edit-test.true c.edit-item.is
    c.in_ok-now.ensures c.in_ok-put_edit.ensures c.loop-edit.invariant
