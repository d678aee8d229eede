use Rattle.std.proofs.Common.{◌≡◌, ◌≤◌, ◌-◌, drop, length}
use Rattle.hwdb_spec_commands.specs.Properties.{same_letters}
use Rattle.hwdb_properties.proofs.names.same_letters.Given as goal

abbrev pub invariant-loop-at : goal.invariant-loop-at
invariant-loop-at l = record {
  in_one : l.at ≤ length l.one;
  in_other : l.at ≤ length l.other;
  same : same_letters (drop l.at l.one) (drop l.at l.other) ≡ same_letters l.one l.other;
}

abbrev pub decreases-loop-at : goal.decreases-loop-at
decreases-loop-at l = length l.one - l.at
