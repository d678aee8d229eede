use Rattle.std.proofs.Common.{length, ◌-◌, ◌+◌, ◌≤◌, ◌≡◌, drop}
use Rattle.hwdb_spec.specs.Patterns.{range_from}
use Rattle.hwdb_pattern.proofs.unusual.range_place.Given as goal

abbrev pub invariant-loop-at : goal.invariant-loop-at
invariant-loop-at l = record {
  at_in : l.at ≤ length l.pattern;
  same : l.at + range_from 0 (drop l.at l.pattern) ≡ range_from 0 l.pattern;
}

abbrev pub decreases-loop-at : goal.decreases-loop-at
decreases-loop-at l = length l.pattern - l.at
