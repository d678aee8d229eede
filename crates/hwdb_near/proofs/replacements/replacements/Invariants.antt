use Rattle.std.proofs.Common.{◌≤◌, drop, length, map}
use Rattle.hwdb_near.specs.Views.{assignment_of}
use Rattle.hwdb_near.specs.Internal.Places.{AreTaken}
use Rattle.hwdb_near.proofs.replacements.replacements.Given as goal

abbrev pub invariant-loop-left : goal.invariant-loop-left
invariant-loop-left l = record {
  within : l.left ≤ length l.all;
  taken : AreTaken (map assignment_of (drop l.left l.all)) l.last l.pairs.items;
}

abbrev pub decreases-loop-left : goal.decreases-loop-left
decreases-loop-left l = l.left
