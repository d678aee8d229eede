use Rattle.std.proofs.Common.{◌≡◌, ◌++◌, map, take}
use Rattle.hwdb_spec_commands.specs.Patches.{take_back}
use Rattle.hwdb_check.specs.Found.{finds}
use Rattle.hwdb_check.specs.Patching.{edits_of}
use Rattle.hwdb_check.proofs.edit_records.put_lines.Given as goal

abbrev pub invariant-loop-edit : goal.invariant-loop-edit
invariant-loop-edit l = edits_of l.all.items ≡ edits_of l.fn.all.items ++ map (take_back (finds l.own)) (edits_of (take l.edit-index l.lines))
