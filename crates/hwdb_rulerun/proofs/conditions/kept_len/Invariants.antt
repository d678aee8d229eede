use Rattle.std.proofs.Common.{length, ◌+◌, ◌≡◌, ◌≤◌, drop}
use Rattle.hwdb_rulerun.specs.Conditions
use Rattle.hwdb_rulerun.proofs.conditions.kept_len.Given as goal

abbrev pub invariant-loop-at : goal.invariant-loop-at
invariant-loop-at l = record {
  at_in : l.at ≤ length l.text;
  small : l.len + l.at ≤ length l.text;
  same : l.len ≡ Conditions.kept_len (drop l.at l.text);
}

abbrev pub decreases-loop-at : goal.decreases-loop-at
decreases-loop-at l = l.at
