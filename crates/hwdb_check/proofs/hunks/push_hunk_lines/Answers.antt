use Rattle.std.proofs.Common.{◌∙◌, ◌++◌, ap}
use Rattle.hwdb_spec_commands.specs.Patches.{old_line}
use Rattle.hwdb_check.specs.Patching.{edit_of}
use Rattle.hwdb_check.proofs.HunkLemmas.{hunk_end, hunk_step}
use Rattle.hwdb_check.proofs.hunks.push_hunk_lines.Goals as goal

pub loop-edit-preserved : goal.loop-edit-preserved
loop-edit-preserved c =
    hunk_step c.args.bare c.args.hunk.now c.loop-edit.edit-index c.edit-item.result c.loop-edit.text.items c.push_old_line.new.text.items c.loop-edit.added.items c.put_added.new.added.items _ c.loop-edit-test.true
    c.edit-item.is (c.in_ok-push_old_line.ensures ∙ ap (λ a. c.loop-edit.text.items ++ old_line c.args.bare a (edit_of c.edit-item.result)) c.deref.ensures.value) c.in_ok-put_added.ensures c.loop-edit.invariant

pub returns : goal.returns
returns c =
    hunk_end c.args.bare c.args.hunk.now c.loop-edit.edit-index c.loop-edit.text.items c.extend_from_slice.new.self.items c.loop-edit.added.items _ c.loop-edit-test.false
    (c.in_ok-extend_from_slice.ensures.items ∙ ap (λ a. c.loop-edit.text.items ++ a) c.deref-2.ensures.value) c.loop-edit.invariant
