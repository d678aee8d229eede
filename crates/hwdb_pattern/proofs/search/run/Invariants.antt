use Rattle.std.proofs.Common.{length, ◌-◌, ◌≤◌}
use Rattle.hwdb_pattern.specs.Internal.Search.{Reaches}
use Rattle.hwdb_pattern.proofs.search.run.Given as goal

abbrev pub invariant-loop-at : goal.invariant-loop-at
invariant-loop-at l = record {
  at_in : l.at ≤ length l.pattern;
  met_in : l.met ≤ length l.device;
  reached : Reaches l.pattern l.device l.at l.met;
}

abbrev pub decreases-loop-at : goal.decreases-loop-at
decreases-loop-at l = length l.pattern - l.at
