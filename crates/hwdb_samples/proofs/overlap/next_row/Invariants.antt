use Rattle.std.proofs.Common.{◌≡◌, ◌≤◌, length, map, suc}
use Rattle.hwdb_spec.specs.Patterns.{token_at}
use Rattle.hwdb_samples.specs.Internal.{token_of}
use Rattle.hwdb_samples.proofs.OverlapLemmas.{RowSoFar}
use Rattle.hwdb_samples.proofs.overlap.next_row.Given as goal

abbrev pub invariant-loop-at : goal.invariant-loop-at
invariant-loop-at l = record {
  within : l.at ≤ length l.under;
  size : length l.next.items ≡ suc (length l.under);
  done : RowSoFar l.row l.next.items (map token_of l.under) (token_at l.over) l.at;
}

abbrev pub decreases-loop-at : goal.decreases-loop-at
decreases-loop-at l = l.at
