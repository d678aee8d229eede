use Rattle.std.proofs.Common.{length, ◌+◌, ◌≡◌, ◌≤◌, ◌++◌}
use Rattle.std.specs.Prelude.{flat_map}
use Rattle.hwdb_spec_commands.specs.Findings.{bare_findings, line_findings}
use Rattle.hwdb_spec.specs.Lines.{numbered}
use Rattle.hwdb_check.specs.Found.{finds}
use Rattle.hwdb_text.specs.PiecesLeft.{lines_left}
use Rattle.hwdb_check.specs.Following.{IsNext}
use Rattle.hwdb_check.specs.Leaving.{names_of}
use Rattle.hwdb_check.proofs.warnings.warnings_by_line.Given as goal

abbrev pub invariant-loop-text : goal.invariant-loop-text
invariant-loop-text l = record {
  near : l.number + length (lines_left l.text-iterator) ≤ length l.bytes + 1;
  next : IsNext l.number l.next l.faults;
  found : finds l.warned.found.items
      ++ flat_map (line_findings l.telling.format (names_of l.telling) l.path l.bytes) (numbered l.number (lines_left l.text-iterator))
      ≡ bare_findings l.telling.format (names_of l.telling) l.path l.bytes;
}
