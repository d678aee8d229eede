use Rattle.std.proofs.Common.{◌≡◌, drop}
use Rattle.hwdb_rulerun.specs.Matching
use Rattle.hwdb_rulerun.proofs.matching.is_glob.Given as goal

abbrev pub invariant-loop-byte : goal.invariant-loop-byte
invariant-loop-byte l = Matching.is_glob (drop l.byte-index l.value) ≡ Matching.is_glob l.value
