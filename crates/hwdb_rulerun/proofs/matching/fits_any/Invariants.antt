use Rattle.std.proofs.Common.{◌≡◌, length, []}
use Rattle.hwdb_rulerun.specs.Matching
use Rattle.hwdb_rulerun.proofs.matching.fits_any.Given as goal

abbrev pub invariant-loop-rest : goal.invariant-loop-rest
invariant-loop-rest l = Matching.fits_any l.is_glob l.text [] l.rest ≡ Matching.fits_any l.is_glob l.text [] l.value

abbrev pub decreases-loop-rest : goal.decreases-loop-rest
decreases-loop-rest l = length l.rest
