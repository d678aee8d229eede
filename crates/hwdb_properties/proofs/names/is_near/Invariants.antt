use Rattle.std.proofs.Common.{◌≡◌, ◌≤◌, ◌-◌, drop, length}
use Rattle.hwdb_spec_commands.specs.Properties.{is_near}
use Rattle.hwdb_properties.proofs.names.is_near.Given as goal

abbrev pub invariant-loop-at : goal.invariant-loop-at
invariant-loop-at l = record {
  in_one : l.at ≤ length l.one;
  in_other : l.at ≤ length l.other;
  same : is_near (drop l.at l.one) (drop l.at l.other) ≡ is_near l.one l.other;
}

abbrev pub decreases-loop-at : goal.decreases-loop-at
decreases-loop-at l = length l.one - l.at
