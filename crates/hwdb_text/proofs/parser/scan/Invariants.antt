use Rattle.std.proofs.Common.{length, ◌≡◌, ◌+◌, ◌≤◌, []}
use Rattle.hwdb_spec.specs.Lines.{lines, numbered}
use Rattle.hwdb_spec.specs.Records.{Origin}
use Rattle.hwdb_text.specs.Internal.Reading.{IsFresh, Reads}
use Rattle.hwdb_text.specs.PiecesLeft.{lines_left}
use Rattle.hwdb_text.proofs.parser.scan.Given as goal

abbrev pub invariant-loop-text : goal.invariant-loop-text
invariant-loop-text l = record {
  fits : l.number ≤ 4294967295;
  count : l.number + length (lines_left l.text-iterator) ≡ length (lines l.bytes);
  none : l.bytes ≡ [] → lines_left l.text-iterator ≡ [];
  fresh : l.bytes ≡ [] → IsFresh l.reader;
  reads : (o : Origin) → Reads o (lines l.bytes) (numbered (l.number + 1) (lines_left l.text-iterator)) l.reader;
}
