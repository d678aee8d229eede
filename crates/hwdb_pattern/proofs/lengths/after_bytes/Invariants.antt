use Rattle.std.proofs.Common.{length, ◌-◌, ◌≤◌}
use Rattle.hwdb_pattern.proofs.TakenLemmas.{Shared}
use Rattle.hwdb_pattern.proofs.lengths.after_bytes.Given as goal

abbrev pub invariant-loop-at : goal.invariant-loop-at
invariant-loop-at l = record {
  at_in : l.at ≤ length l.text;
  shared : Shared l.device l.text l.n l.at;
}

abbrev pub decreases-loop-at : goal.decreases-loop-at
decreases-loop-at l = length l.text - l.at
