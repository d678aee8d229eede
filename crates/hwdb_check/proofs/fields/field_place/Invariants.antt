use Rattle.std.proofs.Common.{length, ◌-◌, ◌≡◌, ◌≤◌, drop, false}
use Rattle.hwdb_spec_commands.specs.Fields.{field_place}
use Rattle.hwdb_check.proofs.fields.field_place.Given as goal

abbrev pub invariant-loop-at : goal.invariant-loop-at
invariant-loop-at l = record {
  at_in : l.at ≤ length l.pattern;
  same : field_place l.inside l.at (drop l.at l.pattern) ≡ field_place false 0 l.pattern;
}

abbrev pub decreases-loop-at : goal.decreases-loop-at
decreases-loop-at l = length l.pattern - l.at
