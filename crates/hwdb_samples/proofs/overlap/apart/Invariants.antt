use Rattle.std.proofs.Common.{◌≡◌, ◌≤◌, ◌-◌, drop, length}
use Rattle.hwdb_spec_commands.specs.Overlaps.{apart}
use Rattle.hwdb_samples.proofs.overlap.apart.Given as goal

abbrev pub invariant-loop-at : goal.invariant-loop-at
invariant-loop-at l = record {
  in_one : l.at ≤ length l.one;
  in_other : l.at ≤ length l.other;
  same : apart l.one l.other ≡ apart (drop l.at l.one) (drop l.at l.other);
}

abbrev pub decreases-loop-at : goal.decreases-loop-at
decreases-loop-at l = length l.one - l.at
