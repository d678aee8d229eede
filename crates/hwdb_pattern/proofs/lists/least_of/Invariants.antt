use Rattle.std.proofs.Common.{◌<◌, ◌≤◌, ℕ, get_or}
use Rattle.std.specs.Prelude.{Contains}
use Rattle.hwdb_pattern.proofs.lists.least_of.Given as goal

abbrev pub invariant-loop-n : goal.invariant-loop-n
invariant-loop-n l = record {
  least : (k : ℕ) → k < l.n-index → l.least ≤ get_or l.lengths k 0;
  member : Contains l.lengths l.least;
}
