use Rattle.std.proofs.Common.{◌≤◌, drop, length}
use Rattle.hwdb_spec.specs.Forms.{fields_row}
use Rattle.hwdb_forms.specs.Internal.{IsLaid, fields_of}
use Rattle.hwdb_forms.proofs.steps.fields_steps.Given as goal

abbrev pub invariant-loop-at : goal.invariant-loop-at
invariant-loop-at l = record {
  within : l.at ≤ length l.fields;
  laid : IsLaid l.steps.items l.place (fields_row (fields_of (drop l.at l.fields)));
}

abbrev pub decreases-loop-at : goal.decreases-loop-at
decreases-loop-at l = l.at
