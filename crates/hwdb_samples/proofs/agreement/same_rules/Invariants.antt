use Rattle.std.proofs.Common.{◌≡◌, ◌≤◌, ◌-◌, drop, length, map}
use Rattle.hwdb_spec_commands.specs.SamplesFound.{same_rules}
use Rattle.hwdb_samples.specs.Views.{rule_texts}
use Rattle.hwdb_samples.proofs.agreement.same_rules.Given as goal

abbrev pub invariant-loop-at : goal.invariant-loop-at
invariant-loop-at l = record {
  in_one : l.at ≤ length l.one;
  in_other : l.at ≤ length l.other;
  same : same_rules (map rule_texts l.one) (map rule_texts l.other) ≡ same_rules (map rule_texts (drop l.at l.one)) (map rule_texts (drop l.at l.other));
}

abbrev pub decreases-loop-at : goal.decreases-loop-at
decreases-loop-at l = length l.one - l.at
