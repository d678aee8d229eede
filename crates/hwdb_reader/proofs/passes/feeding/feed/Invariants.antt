use Rattle.std.proofs.Common.{◌≤◌, ◌+◌, ◌-◌, ℕ, List, length}
use Rattle.hwdb_reader.specs.Passes.Views.{IsPart, IsOf, Stands, pending}
use Rattle.hwdb_reader.proofs.passes.feeding.feed.Given as goal

abbrev pub invariant-loop-end : goal.invariant-loop-end
invariant-loop-end l = record {
  within : l.off ≤ length l.piece;
  offsets : l.n ≤ length l.offsets;
  heights : l.n ≤ length l.heights;
  place : l.at + length l.piece ≤ l.o.size;
  stand : (file : List ℕ) → IsOf l.o file → IsPart file l.at l.piece → Stands file (pending l.fn.offsets l.fn.heights l.fn.done) l.at
      → Stands file (pending l.offsets l.heights l.n) (l.at + l.off);
}

abbrev pub decreases-loop-end : goal.decreases-loop-end
decreases-loop-end l = length l.piece - l.off
