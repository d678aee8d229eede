use Rattle.std.proofs.Common.{length, ◌-◌, ◌≡◌, ◌≤◌, drop}
use Rattle.hwdb_spec_commands.specs.Fragile.{machine_of}
use Rattle.hwdb_check.proofs.fragile.machine_of.Given as goal

abbrev pub invariant-loop-at : goal.invariant-loop-at
invariant-loop-at l = record {
  at_in : l.at ≤ length l.pattern;
  same : machine_of (drop l.at l.pattern) ≡ machine_of l.pattern;
}

abbrev pub decreases-loop-at : goal.decreases-loop-at
decreases-loop-at l = length l.pattern - l.at
