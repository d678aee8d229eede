use Rattle.std.proofs.Common.{◌≡◌, length}
use Rattle.hwdb_spec.specs.Patterns.{token_at}
use Rattle.hwdb_pattern.specs.Internal.Prefixes.{AreAdmitted}
use Rattle.hwdb_pattern.proofs.tables.admitted_bytes.Given as goal

abbrev pub invariant-loop-byte : goal.invariant-loop-byte
invariant-loop-byte l = record { size : length l.admitted ≡ 256; admitted : AreAdmitted (token_at l.text) l.admitted l.byte }
