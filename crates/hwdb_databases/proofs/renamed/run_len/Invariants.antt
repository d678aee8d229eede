use Rattle.std.proofs.Common.{◌≡◌, ◌≤◌, ◌+◌, ◌-◌, drop, length}
use Rattle.hwdb_databases.specs.Internal.Renaming.{run_in}
use Rattle.hwdb_databases.proofs.renamed.run_len.Given as goal

abbrev pub invariant-loop-n : goal.invariant-loop-n
invariant-loop-n l = record {
  in_all : l.n ≤ length l.changes;
  runs : l.n + run_in l.pattern (drop l.n l.changes) ≡ run_in l.pattern l.changes;
}

abbrev pub decreases-loop-n : goal.decreases-loop-n
decreases-loop-n l = length l.changes - l.n
