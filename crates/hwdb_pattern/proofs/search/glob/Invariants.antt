use Rattle.std.proofs.Common.{length, drop, ◌-◌, ◌≤◌, ◌+◌}
use Rattle.hwdb_pattern.specs.Internal.Search.{ArePlain, Remains}
use Rattle.hwdb_pattern.proofs.search.glob.Given as goal

abbrev pub invariant-loop-met : goal.invariant-loop-met
invariant-loop-met l = record {
  at_in : l.at ≤ length l.pattern;
  met_in : l.met ≤ length l.device + 1;
  remains : Remains l.pattern l.device l.at l.met;
  plain_in : l.plain ≤ length (drop l.at l.pattern);
  plain : ArePlain (drop l.at l.pattern) l.plain;
}

abbrev pub decreases-loop-met : goal.decreases-loop-met
decreases-loop-met l = (length l.pattern - l.at) + (length l.device + 1 - l.met)
