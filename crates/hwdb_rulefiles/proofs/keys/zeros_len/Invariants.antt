use Rattle.std.proofs.Common.{length, ◌-◌, ◌+◌, ◌≡◌, ◌≤◌, drop}
use Rattle.std.specs.List.{prefix_len}
use Rattle.hwdb_spec.specs.Lines.{is}
use Rattle.hwdb_rulefiles.specs.RuleKeys.{is_octal}
use Rattle.hwdb_rulefiles.proofs.keys.zeros_len.Given as goal

abbrev pub invariant-loop-at : goal.invariant-loop-at
invariant-loop-at l = record {
  at_in : l.at ≤ length l.text;
  same : l.at + prefix_len (is 48) (drop l.at l.text) ≡ prefix_len (is 48) l.text;
}

abbrev pub decreases-loop-at : goal.decreases-loop-at
decreases-loop-at l = length l.text - l.at
