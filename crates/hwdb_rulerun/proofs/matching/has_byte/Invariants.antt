use Rattle.std.proofs.Common.{◌≡◌, drop}
use Rattle.hwdb_spec.specs.Lines.{has}
use Rattle.hwdb_rulerun.proofs.matching.has_byte.Given as goal

abbrev pub invariant-loop-byte : goal.invariant-loop-byte
invariant-loop-byte l = has l.own (drop l.byte-index l.text) ≡ has l.own l.text
