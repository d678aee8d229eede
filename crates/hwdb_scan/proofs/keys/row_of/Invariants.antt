use Rattle.std.proofs.Common.{◌≡◌, find}
use Rattle.hwdb_spec.specs.Folders.{same}
use Rattle.hwdb_spec.specs.Lines.{is, pieces}
use Rattle.hwdb_spec_commands.specs.Properties.{after_word}
use Rattle.hwdb_text.specs.PiecesLeft.{lines_left}
use Rattle.hwdb_scan.proofs.keys.row_of.Given as goal

abbrev pub invariant-loop-row : goal.invariant-loop-row
invariant-loop-row l = find (λ row. same (after_word row) l.number) (lines_left l.row-iterator) ≡ find (λ row. same (after_word row) l.number) (pieces (is 10) l.table)
