use Rattle.std.proofs.Common.{◌≤◌, ◌+◌, ◌-◌, ℕ, List}
use Rattle.hwdb_reader.specs.Passes.Views.{IsPart, Stand, pending}
use Rattle.hwdb_reader.specs.Passes.Internal.{ChildrenStand}
use Rattle.hwdb_reader.proofs.passes.children.children_height.Given as goal

abbrev pub invariant-loop-i : goal.invariant-loop-i
invariant-loop-i l = record {
  within : l.i ≤ l.count;
  stand : (file : List ℕ) (at : ℕ) → IsPart file at l.piece → Stand l.frame.sizes file (pending l.offsets l.heights l.n) (at + l.off)
      → ChildrenStand l.frame.sizes file (pending l.offsets l.heights (l.n - l.count + l.i)) l.height l.above (at + l.off) l.i (l.count - l.i);
}

abbrev pub decreases-loop-i : goal.decreases-loop-i
decreases-loop-i l = l.i
