use Rattle.std.proofs.Common.{length, ◌+◌, ◌≡◌, ◌≤◌, ◌++◌}
use Rattle.std.specs.Prelude.{flat_map}
use Rattle.hwdb_spec.specs.Lines.{lines, numbered}
use Rattle.hwdb_spec_commands.specs.Progress.{too_long_line}
use Rattle.hwdb_text.specs.PiecesLeft.{lines_left}
use Rattle.hwdb_check.proofs.too_long.push_too_long.Given as goal

abbrev pub invariant-loop-line : goal.invariant-loop-line
invariant-loop-line l = record {
  near : l.number + length (lines_left l.line-iterator) ≤ length l.bytes + 1;
  text : l.text.items ++ flat_map (too_long_line l.path) (numbered l.number (lines_left l.line-iterator))
      ≡ l.fn.text.items ++ flat_map (too_long_line l.path) (lines l.bytes);
}
