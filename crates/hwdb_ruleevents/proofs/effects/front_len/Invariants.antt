use Rattle.std.proofs.Common.{length, ◌-◌, ◌+◌, ◌≡◌, ◌≤◌, drop}
use Rattle.std.specs.List.{position_or_len}
use Rattle.hwdb_rulerun.specs.Matching.{is_wild}
use Rattle.hwdb_ruleevents.proofs.effects.front_len.Given as goal

abbrev pub invariant-loop-at : goal.invariant-loop-at
invariant-loop-at l = record {
  at_in : l.at ≤ length l.pattern;
  same : l.at + position_or_len is_wild (drop l.at l.pattern) ≡ position_or_len is_wild l.pattern;
}

abbrev pub decreases-loop-at : goal.decreases-loop-at
decreases-loop-at l = length l.pattern - l.at
