use Rattle.std.proofs.Common.{◌≡◌, ◌≤◌, ◌-◌, drop, length}
use Rattle.hwdb_spec.specs.Patterns.{matches, tokens}
use Rattle.hwdb_near.proofs.matching.may_match.Given as goal

abbrev pub invariant-loop-at : goal.invariant-loop-at
invariant-loop-at l = record {
  in_pattern : l.at ≤ length l.pattern;
  in_device : l.at ≤ length l.device;
  same : matches (tokens l.pattern) l.device ≡ matches (tokens (drop l.at l.pattern)) (drop l.at l.device);
}

abbrev pub decreases-loop-at : goal.decreases-loop-at
decreases-loop-at l = length l.pattern - l.at
