use Rattle.std.proofs.Common.{length, ◌-◌, ◌+◌, ◌≡◌, ◌≤◌, drop, false}
use Rattle.hwdb_rulefiles.specs.RulePairs
use Rattle.hwdb_rulefiles.proofs.values.value_len.Given as goal

abbrev pub invariant-loop-at : goal.invariant-loop-at
invariant-loop-at l = record {
  at_in : l.at ≤ length l.text;
  same : l.at + RulePairs.value_len l.escaped l.skip (drop l.at l.text) ≡ RulePairs.value_len l.escaped false l.text;
}

abbrev pub decreases-loop-at : goal.decreases-loop-at
decreases-loop-at l = length l.text - l.at
