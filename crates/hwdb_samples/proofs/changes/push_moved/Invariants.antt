use Rattle.std.proofs.Common.{◌≡◌, ◌≤◌, ◌-◌, ◌++◌, drop, length, map}
use Rattle.hwdb_spec_commands.specs.SamplesFound.{moved}
use Rattle.hwdb_samples.specs.Views.{own_text, rule_texts}
use Rattle.hwdb_samples.proofs.changes.push_moved.Given as goal

abbrev pub invariant-loop-at : goal.invariant-loop-at
invariant-loop-at l = record {
  in_one : l.at ≤ length l.one;
  in_other : l.at ≤ length l.other;
  moved : map own_text l.listed.items ++ moved (map rule_texts (drop l.at l.one)) (map rule_texts (drop l.at l.other)) ≡ map own_text l.fn.listed.items ++ moved (map rule_texts l.one) (map rule_texts l.other);
}

abbrev pub decreases-loop-at : goal.decreases-loop-at
decreases-loop-at l = length l.one - l.at
