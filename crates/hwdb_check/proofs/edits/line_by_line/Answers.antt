use Rattle.std.proofs.Common.{refl}
use Rattle.hwdb_check.specs.Found.{finds}
use Rattle.hwdb_check.specs.Patching.{change_of, edit_of, edits_of}
use Rattle.std.proofs.Common.{drop}
use Rattle.hwdb_check.proofs.EditLemmas.{all_changed, line_changed}
use Rattle.hwdb_check.proofs.edits.line_by_line.Goals as goal

pub loop-edit-preserved : goal.loop-edit-preserved
loop-edit-preserved c = record {
  within = c.own_end-end.ensures.within;
  lines = line_changed (change_of c.args.change) c.args.found.now _ c.loop-edit.from c.own_end-end.result c.loop-edit.edit-index c.args.edits.now (edits_of c.loop-edit.all.items) _ c.edit-item.result
      (edit_of c.in_ok-now.now) _ c.loop-edit-test.true c.edit-item.is c.own_end-end.ensures.end refl c.in_ok-now.ensures c.in_ok-put_edit.ensures c.loop-edit.invariant.lines;
}

pub returns : goal.returns
returns c = all_changed (change_of c.args.change) (finds (drop c.loop-edit.from c.args.found.now)) c.loop-edit.edit-index c.args.edits.now c.loop-edit.all.items _ c.loop-edit-test.false c.loop-edit.invariant.lines
