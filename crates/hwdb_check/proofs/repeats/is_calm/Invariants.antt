use Rattle.std.proofs.Common.{◌≡◌, false}
use Rattle.hwdb_spec.specs.Lines.{is, pieces}
use Rattle.hwdb_text.specs.PiecesLeft.{lines_left}
use Rattle.hwdb_check.specs.Internal.{calm}
use Rattle.hwdb_check.proofs.repeats.is_calm.Given as goal

abbrev pub invariant-loop-text : goal.invariant-loop-text
invariant-loop-text l = calm l.after (lines_left l.text-iterator) ≡ calm false (pieces (is 10) l.bytes)
