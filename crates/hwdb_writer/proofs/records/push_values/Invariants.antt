use Rattle.std.proofs.Common.{◌≡◌, ◌++◌, drop, List, ℕ}
use Rattle.std.specs.Prelude.{flat_map}
use Rattle.hwdb_spec.specs.Tree.{Value}
use Rattle.hwdb_spec.specs.Written.{value_text}
use Rattle.hwdb_writer.specs.Internal.Stored.{IsAt, AreValues}
use Rattle.hwdb_writer.proofs.records.push_values.Given as goal

abbrev pub invariant-loop-value : goal.invariant-loop-value
invariant-loop-value l = (place : List ℕ → ℕ) (xs : List Value) → AreValues (IsAt place l.places) l.values xs →
    l.out.items ++ flat_map (value_text place) (drop l.value-index xs) ≡ l.initial.out.items ++ flat_map (value_text place) xs
