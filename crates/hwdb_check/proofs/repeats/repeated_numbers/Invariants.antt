use Rattle.std.proofs.Common.{length, ◌+◌, ◌≡◌, ◌≤◌}
use Rattle.hwdb_spec.specs.Lines.{clean, numbered}
use Rattle.hwdb_spec_commands.specs.Warnings.{repeated_lines}
use Rattle.hwdb_text.specs.PiecesLeft.{lines_left}
use Rattle.hwdb_check.specs.Internal.{found_with}
use Rattle.hwdb_check.proofs.repeats.repeated_numbers.Given as goal

abbrev pub invariant-loop-text : goal.invariant-loop-text
invariant-loop-text l = record {
  near : l.number + length (lines_left l.text-iterator) ≤ length l.bytes + 1;
  found : found_with l.run (clean (numbered l.number (lines_left l.text-iterator))) ≡ repeated_lines l.bytes;
}
