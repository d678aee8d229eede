use Rattle.std.proofs.Common.{◌≡◌, drop}
use Rattle.hwdb_spec_commands.specs.Patches.{last_number}
use Rattle.hwdb_check.specs.Patching.{edits_of}
use Rattle.hwdb_check.proofs.edit_records.last_number.Given as goal

abbrev pub invariant-loop-edit : goal.invariant-loop-edit
invariant-loop-edit l = last_number l.last (edits_of (drop l.edit-index l.lines)) ≡ last_number 0 (edits_of l.lines)
