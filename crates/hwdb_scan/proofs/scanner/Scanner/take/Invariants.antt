use Rattle.std.proofs.Common.{◌≡◌, ◌++◌, drop}
use Rattle.hwdb_scan.specs.Views.{after_bytes, bytes_text, scanning_of}
use Rattle.hwdb_scan.proofs.scanner.Scanner.take.Given as goal

abbrev pub invariant-loop-byte : goal.invariant-loop-byte
invariant-loop-byte l =
    (after_bytes (scanning_of l.self) (drop l.byte-index l.bytes) ≡ after_bytes (scanning_of l.fn.self) l.bytes)
    × (l.text.items ++ bytes_text (scanning_of l.self) (drop l.byte-index l.bytes) ≡ l.fn.text.items ++ bytes_text (scanning_of l.fn.self) l.bytes)
