use Rattle.std.proofs.Common.{◌≡◌, ◌≤◌, ◌++◌, drop, length}
use Rattle.hwdb_spec_commands.specs.Patches.{line_by_line}
use Rattle.hwdb_check.specs.Found.{finds}
use Rattle.hwdb_check.specs.Patching.{change_of, edits_of}
use Rattle.hwdb_check.proofs.edits.line_by_line.Given as goal

abbrev pub invariant-loop-edit : goal.invariant-loop-edit
invariant-loop-edit l = record {
  within : l.from ≤ length l.found;
  lines : edits_of l.all.items ++ line_by_line (change_of l.change) (finds (drop l.from l.found)) (edits_of (drop l.edit-index l.edits))
      ≡ line_by_line (change_of l.change) (finds l.found) (edits_of l.edits);
}
