use Rattle.std.proofs.Common.{◌≡◌, ◌++◌, map}
use Rattle.hwdb_spec.specs.Lines.{is, pieces}
use Rattle.hwdb_text.specs.PiecesLeft.{lines_left}
use Rattle.hwdb_tool.proofs.diff_command.push_devices.Given as goal

abbrev pub invariant-loop-line : goal.invariant-loop-line
invariant-loop-line l = map (λ d. d.now) l.devices.items ++ lines_left l.line-iterator ≡ map (λ d. d.now) l.fn.devices.items ++ pieces (is 10) l.fn.text
