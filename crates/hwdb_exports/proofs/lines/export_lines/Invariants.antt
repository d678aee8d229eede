use Rattle.std.proofs.Common.{◌≡◌, ◌++◌, map}
use Rattle.std.specs.List.{before_first}
use Rattle.hwdb_spec.specs.Lines.{is}
use Rattle.hwdb_spec_commands.specs.Exports as spec
use Rattle.hwdb_text.specs.PiecesLeft.{lines_left}
use Rattle.hwdb_exports.proofs.lines.export_lines.Given as goal

abbrev pub invariant-loop-line : goal.invariant-loop-line
invariant-loop-line l = map (λ t. t.now) l.lines.items ++ map (before_first (is 13)) (lines_left l.line-iterator) ≡ spec.export_lines l.bytes
