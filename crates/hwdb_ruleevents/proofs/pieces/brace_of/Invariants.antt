use Rattle.std.proofs.Common.{length, ◌-◌, ◌+◌, ◌≡◌, ◌≤◌, drop}
use Rattle.std.specs.List.{position_or_len}
use Rattle.hwdb_rulefiles.specs.RulePairs.{is_brace}
use Rattle.hwdb_ruleevents.proofs.pieces.brace_of.Given as goal

abbrev pub invariant-loop-at : goal.invariant-loop-at
invariant-loop-at l = record {
  at_in : l.at ≤ length l.text;
  same : l.at + position_or_len is_brace (drop l.at l.text) ≡ position_or_len is_brace l.text;
}

abbrev pub decreases-loop-at : goal.decreases-loop-at
decreases-loop-at l = length l.text - l.at
