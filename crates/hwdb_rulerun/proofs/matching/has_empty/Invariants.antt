use Rattle.std.proofs.Common.{length, ◌-◌, ◌≡◌, ◌≤◌, drop, true}
use Rattle.hwdb_rulerun.specs.Matching
use Rattle.hwdb_rulerun.proofs.matching.has_empty.Given as goal

abbrev pub invariant-loop-at : goal.invariant-loop-at
invariant-loop-at l = record {
  at_in : l.at ≤ length l.value;
  same : Matching.has_empty l.bar (drop l.at l.value) ≡ Matching.has_empty true l.value;
}

abbrev pub decreases-loop-at : goal.decreases-loop-at
decreases-loop-at l = length l.value - l.at
