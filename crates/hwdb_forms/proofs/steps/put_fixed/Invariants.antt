use Rattle.std.proofs.Common.{◌≤◌, drop, length}
use Rattle.hwdb_spec.specs.Forms.{fixed_row}
use Rattle.hwdb_forms.specs.Internal.{IsPut}
use Rattle.hwdb_forms.proofs.steps.put_fixed.Given as goal

abbrev pub invariant-loop-at : goal.invariant-loop-at
invariant-loop-at l = record {
  within : l.at ≤ length l.bytes;
  put : IsPut l.fn.steps.items l.steps.items l.after l.place (λ rows us. fixed_row (drop l.at l.bytes) us (rows us));
}

abbrev pub decreases-loop-at : goal.decreases-loop-at
decreases-loop-at l = l.at
