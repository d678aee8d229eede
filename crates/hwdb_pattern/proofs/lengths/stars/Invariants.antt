use Rattle.std.proofs.Common.{◌≡◌, ◌<◌, ◌≤◌, ◌-◌, ℕ, get_or, length}
use Rattle.hwdb_pattern.proofs.lengths.stars.Given as goal

abbrev pub invariant-loop-at : goal.invariant-loop-at
invariant-loop-at l = record {
  at_in : l.at ≤ length l.text;
  stars : (k : ℕ) → k < l.at → get_or l.text k 0 ≡ 42;
}

abbrev pub decreases-loop-at : goal.decreases-loop-at
decreases-loop-at l = length l.text - l.at

abbrev pub invariant-loop-at-2 : goal.invariant-loop-at-2
invariant-loop-at-2 l = record {
  at_in : l.at ≤ length l.text;
  stars : (k : ℕ) → k < l.at → get_or l.text k 0 ≡ 42;
}

abbrev pub decreases-loop-at-2 : goal.decreases-loop-at-2
decreases-loop-at-2 l = length l.text - l.at
