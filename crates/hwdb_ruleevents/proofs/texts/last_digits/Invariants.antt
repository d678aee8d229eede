use Rattle.std.proofs.Common.{◌≡◌, length}
use Rattle.hwdb_ruleevents.specs.Texts
use Rattle.hwdb_ruleevents.proofs.texts.last_digits.Given as goal

abbrev pub invariant-loop-rest : goal.invariant-loop-rest
invariant-loop-rest l = Texts.last_digits l.rest ≡ Texts.last_digits l.name

abbrev pub decreases-loop-rest : goal.decreases-loop-rest
decreases-loop-rest l = length l.rest
