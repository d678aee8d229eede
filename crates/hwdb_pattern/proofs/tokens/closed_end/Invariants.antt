use Rattle.std.proofs.Common.{◌≡◌, length, ◌-◌, ◌<◌, ◌≤◌, get_or}
use Rattle.hwdb_pattern.proofs.ClosedPartLemmas.{ClosedTo}
use Rattle.hwdb_pattern.proofs.tokens.closed_end.Given as goal

abbrev pub invariant-loop-at : goal.invariant-loop-at
invariant-loop-at l = record {
  at_in : l.at ≤ length l.text;
  here : l.at < length l.text → get_or l.text l.at 0 ≡ 91;
  closed : ClosedTo l.text l.at;
}

abbrev pub decreases-loop-at : goal.decreases-loop-at
decreases-loop-at l = length l.text - l.at
