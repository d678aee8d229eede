use Rattle.std.proofs.Common.{◌≡◌, map, take}
use Rattle.hwdb_rulerun.specs.Matching
use Rattle.hwdb_rulerun.proofs.matching.folded.Given as goal

abbrev pub invariant-loop-byte : goal.invariant-loop-byte
invariant-loop-byte l = l.all.items ≡ map Matching.lower (take l.byte-index l.text)
