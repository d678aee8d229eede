use Rattle.std.proofs.Common.{◌≡◌, drop}
use Rattle.hwdb_ruleevents.specs.Texts
use Rattle.hwdb_ruleevents.proofs.texts.all_digits.Given as goal

abbrev pub invariant-loop-byte : goal.invariant-loop-byte
invariant-loop-byte l = Texts.all_digits (drop l.byte-index l.text) ≡ Texts.all_digits l.text
