use Rattle.std.proofs.Common.{◌≡◌, take}
use Rattle.std.specs.Prelude.{flat_map}
use Rattle.hwdb_spec_commands.specs.Patches.{with_newline}
use Rattle.hwdb_check.specs.Patching.{edits_of}
use Rattle.hwdb_check.proofs.edits.whole_text.Given as goal

abbrev pub invariant-loop-edit : goal.invariant-loop-edit
invariant-loop-edit l = l.text.items ≡ flat_map with_newline (edits_of (take l.edit-index l.edits))
