use Rattle.std.proofs.Common.{length, ◌-◌, ◌+◌, ◌≤◌, ◌≡◌, drop, nat_eq, true}
use Rattle.hwdb_spec.specs.Patterns.{reversed_from}
use Rattle.hwdb_pattern.proofs.unusual.reversed_item.Given as goal

abbrev pub invariant-loop-at : goal.invariant-loop-at
invariant-loop-at l = record {
  at_in : l.at ≤ length l.text;
  same : l.at + reversed_from (nat_eq l.at 0) 0 (drop l.at l.text) ≡ reversed_from true 0 l.text;
}

abbrev pub decreases-loop-at : goal.decreases-loop-at
decreases-loop-at l = length l.text - l.at
