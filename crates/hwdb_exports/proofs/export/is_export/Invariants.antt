use Rattle.std.proofs.Common.{◌≡◌, map}
use Rattle.std.specs.List.{before_first, list_any}
use Rattle.hwdb_spec.specs.Lines.{is}
use Rattle.hwdb_spec_commands.specs.Exports.{begins_device, is_export}
use Rattle.hwdb_text.specs.PiecesLeft.{lines_left}
use Rattle.hwdb_exports.proofs.export.is_export.Given as goal

abbrev pub invariant-loop-line : goal.invariant-loop-line
invariant-loop-line l = list_any begins_device (map (before_first (is 13)) (lines_left l.line-iterator)) ≡ is_export l.bytes
