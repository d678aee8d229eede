use Rattle.std.proofs.Common.{◌≡◌, ◌≤◌, drop, length, map, suc}
use Rattle.hwdb_samples.specs.Internal.{IsRow, token_of}
use Rattle.hwdb_samples.proofs.overlap.within.Given as goal

abbrev pub invariant-loop-at : goal.invariant-loop-at
invariant-loop-at l = record {
  at_in : l.at ≤ length l.overs;
  size : length l.row.items ≡ suc (length l.unders);
  within : IsRow l.row.items (map token_of l.unders) (drop l.at (map token_of l.overs));
}

abbrev pub decreases-loop-at : goal.decreases-loop-at
decreases-loop-at l = l.at
