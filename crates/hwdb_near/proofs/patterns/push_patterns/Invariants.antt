use Rattle.std.proofs.Common.{length, ◌+◌, ◌≡◌, ◌≤◌, ◌++◌, map}
use Rattle.std.specs.Prelude.{flat_map}
use Rattle.hwdb_spec.specs.Lines.{numbered}
use Rattle.hwdb_spec_commands.specs.Near.{patterns_in, patterns_of_line}
use Rattle.hwdb_text.specs.PiecesLeft.{lines_left}
use Rattle.hwdb_near.specs.Views.{pattern_at}
use Rattle.hwdb_near.proofs.patterns.push_patterns.Given as goal

abbrev pub invariant-loop-text : goal.invariant-loop-text
invariant-loop-text l = record {
  near : l.line + length (lines_left l.text-iterator) ≤ length l.file.bytes.now + 1;
  patterns : map pattern_at l.patterns.items ++ flat_map (patterns_of_line l.file.path.now l.place) (numbered l.line (lines_left l.text-iterator))
      ≡ map pattern_at l.fn.patterns.items ++ patterns_in l.file.path.now l.place l.file.bytes.now;
}
