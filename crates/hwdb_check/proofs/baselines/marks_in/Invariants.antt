use Rattle.std.proofs.Common.{length, ◌+◌, ◌≡◌, ◌≤◌, map}
use Rattle.hwdb_spec_commands.specs.Baselines
use Rattle.hwdb_text.specs.PiecesLeft.{lines_left}
use Rattle.hwdb_check.specs.Known.{after_marks}
use Rattle.hwdb_check.proofs.baselines.marks_in.Given as goal

abbrev pub invariant-loop-text : goal.invariant-loop-text
invariant-loop-text l = record {
  near : l.number + length (lines_left l.text-iterator) ≤ length l.bytes + 1;
  marks : after_marks (map (λ t. t.items) l.marks.items) (Baselines.marks_from l.number (lines_left l.text-iterator)) ≡ Baselines.marks_in l.bytes;
}
