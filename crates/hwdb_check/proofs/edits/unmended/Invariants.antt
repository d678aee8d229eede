use Rattle.std.proofs.Common.{length, map, ◌+◌, ◌++◌, ◌≡◌, ◌≤◌}
use Rattle.hwdb_spec.specs.Lines.{numbered}
use Rattle.hwdb_spec_commands.specs.Patches.{kept, unmended}
use Rattle.hwdb_text.specs.PiecesLeft.{lines_left}
use Rattle.hwdb_check.specs.Patching.{edits_of}
use Rattle.hwdb_check.proofs.edits.unmended.Given as goal

abbrev pub invariant-loop-old : goal.invariant-loop-old
invariant-loop-old l = record {
  near : l.number + length (lines_left l.old-iterator) ≤ length l.bytes + 1;
  lines : edits_of l.all.items ++ map kept (numbered l.number (lines_left l.old-iterator)) ≡ unmended l.bytes;
}
