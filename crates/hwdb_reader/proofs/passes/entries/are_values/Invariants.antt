use Rattle.std.proofs.Common.{◌≡◌, ◌≤◌, ◌+◌, ◌*◌, ◌-◌, ℕ, List, MatchOption}
use Rattle.hwdb_reader.specs.Passes.Views.{IsPart, IsOf}
use Rattle.hwdb_reader.specs.Passes.Internal.{IsInside, ValuesStand}
use Rattle.hwdb_reader.proofs.passes.entries.are_values.Given as goal

abbrev pub invariant-loop-i : goal.invariant-loop-i
invariant-loop-i l = record {
  within : l.i ≤ l.n;
  entry : l.entry ≡ l.first + l.o.frame.sizes.value_size * l.i;
  inside : MatchOption l.next (Unit {0}) (λ key. IsInside l.o key);
  stand : (file : List ℕ) (at : ℕ) → IsOf l.o file → IsPart file at l.piece → ValuesStand l.o.frame.sizes file (at + l.entry) l.next (l.n - l.i);
}

abbrev pub decreases-loop-i : goal.decreases-loop-i
decreases-loop-i l = l.i
