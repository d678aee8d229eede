use Rattle.std.proofs.Common.{length, ◌-◌, ◌≤◌}
use Rattle.hwdb_pattern.specs.Internal.Search.{ArePlain}
use Rattle.hwdb_pattern.proofs.search.plain_size.Given as goal

abbrev pub invariant-loop-at : goal.invariant-loop-at
invariant-loop-at l = record {
  at_in : l.at ≤ length l.pattern;
  plain : ArePlain l.pattern l.at;
}

abbrev pub decreases-loop-at : goal.decreases-loop-at
decreases-loop-at l = length l.pattern - l.at
