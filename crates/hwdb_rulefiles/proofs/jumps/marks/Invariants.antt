use Rattle.std.proofs.Common.{◌≡◌, ◌≤◌, length, map, drop, reverse}
use Rattle.hwdb_rulefiles.specs.RuleJumps.{marks}
use Rattle.hwdb_rulefiles.specs.Internal.{AreLabels}
use Rattle.hwdb_rulefiles.specs.LineViews.{outcome_of}
use Rattle.hwdb_rulefiles.proofs.jumps.marks.Given as goal

abbrev pub invariant-loop-at : goal.invariant-loop-at
invariant-loop-at l = record {
  at_in : l.at ≤ length l.outcomes;
  marks : reverse l.marks.items ≡ marks (map outcome_of (drop l.at l.outcomes));
  labels : AreLabels l.labels (map outcome_of (drop l.at l.outcomes));
}

abbrev pub decreases-loop-at : goal.decreases-loop-at
decreases-loop-at l = l.at
