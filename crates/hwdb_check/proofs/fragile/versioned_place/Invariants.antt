use Rattle.std.proofs.Common.{length, ◌-◌, ◌+◌, ◌≡◌, ◌≤◌, drop, true}
use Rattle.hwdb_spec_commands.specs.Fragile.{versioned_place}
use Rattle.hwdb_check.proofs.fragile.versioned_place.Given as goal

abbrev pub invariant-loop-at : goal.invariant-loop-at
invariant-loop-at l = record {
  at_in : l.at ≤ length l.machine;
  same : l.at + versioned_place l.begins (drop l.at l.machine) ≡ versioned_place true l.machine;
}

abbrev pub decreases-loop-at : goal.decreases-loop-at
decreases-loop-at l = length l.machine - l.at
