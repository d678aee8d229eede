use Rattle.std.proofs.Common.{◌≤◌, drop, length, map}
use Rattle.hwdb_near.specs.Views.{assignment_of}
use Rattle.hwdb_near.specs.Internal.Once.{AreOnce}
use Rattle.hwdb_near.proofs.each_once.each_once.Given as goal

abbrev pub invariant-loop-left : goal.invariant-loop-left
invariant-loop-left l = record {
  within : l.left ≤ length l.all;
  once : AreOnce (map assignment_of (drop l.left l.all)) l.seen l.kept.items;
}

abbrev pub decreases-loop-left : goal.decreases-loop-left
decreases-loop-left l = l.left
