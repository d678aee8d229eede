use Rattle.std.proofs.Common.{length, ◌-◌, ◌≤◌}
use Rattle.hwdb_pattern.proofs.SearchLemmas.{Counts}
use Rattle.hwdb_pattern.proofs.search.bytes_matched.Given as goal

abbrev pub invariant-loop-at : goal.invariant-loop-at
invariant-loop-at l = record {
  at_in : l.at ≤ length l.pattern;
  few : l.count ≤ l.at;
  counts : Counts l.pattern l.at l.count;
}

abbrev pub decreases-loop-at : goal.decreases-loop-at
decreases-loop-at l = length l.pattern - l.at
