use Rattle.std.proofs.Common.{length, ◌-◌, ◌≤◌, ◌≡◌, drop, nat_eq, true}
use Rattle.std.specs.Option.{option_map}
use Rattle.hwdb_spec.specs.Patterns.{items_from}
use Rattle.hwdb_pattern.specs.Internal.Parts.{items_part, ahead}
use Rattle.hwdb_pattern.proofs.brackets.items.Given as goal

abbrev pub invariant-loop-at : goal.invariant-loop-at
invariant-loop-at l = record {
  at_in : l.at ≤ length l.text;
  ahead : option_map (ahead l.at l.admits l.byte) (items_from (nat_eq l.at 0) 0 (drop l.at l.text))
      ≡ option_map (items_part l.byte) (items_from true 0 l.text);
}

abbrev pub decreases-loop-at : goal.decreases-loop-at
decreases-loop-at l = length l.text - l.at
