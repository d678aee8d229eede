use Rattle.std.proofs.Common.{length, ◌-◌, ◌+◌, ◌≡◌, ◌≤◌, drop}
use Rattle.hwdb_rulefiles.specs.RulePairs
use Rattle.hwdb_rulefiles.proofs.pairs.key_len.Given as goal

abbrev pub invariant-loop-at : goal.invariant-loop-at
invariant-loop-at l = record {
  at_in : l.at ≤ length l.text;
  same : l.at + RulePairs.key_len (drop l.at l.text) ≡ RulePairs.key_len l.text;
}

abbrev pub decreases-loop-at : goal.decreases-loop-at
decreases-loop-at l = length l.text - l.at
