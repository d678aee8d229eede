use Rattle.std.proofs.Common.{◌≡◌, drop}
use Rattle.std.specs.Prelude.{find}
use Rattle.hwdb_spec.specs.Patterns.{admits_byte, token_at}
use Rattle.hwdb_samples.proofs.texts.first_of.Given as goal

abbrev pub invariant-loop-byte : goal.invariant-loop-byte
invariant-loop-byte l = find (admits_byte (token_at l.fn.token)) (drop l.byte-index l.bytes) ≡ find (admits_byte (token_at l.fn.token)) l.bytes
