use Rattle.std.proofs.Common.{◌≤◌, ◌-◌, length}
use Rattle.hwdb_spec.specs.Patterns.{admits_byte, token_at}
use Rattle.hwdb_pattern.specs.Internal.Places.{Gathers}
use Rattle.hwdb_pattern.proofs.rests.gather.Given as goal

abbrev pub invariant-loop-at : goal.invariant-loop-at
invariant-loop-at l = record {
  at_in : l.at ≤ length l.bytes;
  gathers : Gathers (admits_byte (token_at l.text)) l.bytes l.least l.at l.lengths.items;
}

abbrev pub decreases-loop-at : goal.decreases-loop-at
decreases-loop-at l = length l.bytes - l.at
