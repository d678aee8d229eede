use Rattle.std.proofs.Common.{◌≡◌, ◌++◌, [], drop}
use Rattle.hwdb_spec_commands.specs.Patches.{hunk_lines}
use Rattle.hwdb_check.specs.Patching.{edits_of}
use Rattle.hwdb_check.proofs.hunks.push_hunk_lines.Given as goal

abbrev pub invariant-loop-edit : goal.invariant-loop-edit
invariant-loop-edit l =
    l.text.items ++ hunk_lines l.bare l.added.items (edits_of (drop l.edit-index l.hunk)) ≡ l.fn.text.items ++ hunk_lines l.bare [] (edits_of l.hunk)
