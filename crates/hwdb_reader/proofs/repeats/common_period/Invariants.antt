use Rattle.std.proofs.Common.{ℕ, ◌<◌, ◌≤◌, ◌+◌}
use Rattle.hwdb_reader.specs.Internal.Repeats.{HasPeriod}
use Rattle.hwdb_reader.proofs.repeats.common_period.Given as goal

abbrev pub invariant-loop-a : goal.invariant-loop-a
invariant-loop-a l = record {
  some : 0 < l.b;
  shorter : l.b ≤ l.short;
  period : (at : ℕ → ℕ) (s e : ℕ) → s + l.long + l.short ≤ e → HasPeriod at s e l.long → HasPeriod at s e l.short
      → (s + l.a + l.b ≤ e) × HasPeriod at s e l.a × HasPeriod at s e l.b;
}

abbrev pub decreases-loop-a : goal.decreases-loop-a
decreases-loop-a l = l.b
