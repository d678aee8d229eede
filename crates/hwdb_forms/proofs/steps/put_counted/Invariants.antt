use Rattle.std.proofs.Common.{◌≤◌, ◌-◌}
use Rattle.hwdb_spec.specs.Forms.{counted_row}
use Rattle.hwdb_forms.specs.Internal.{IsPut}
use Rattle.hwdb_forms.proofs.steps.put_counted.Given as goal

abbrev pub invariant-loop-done : goal.invariant-loop-done
invariant-loop-done l = record {
  within : l.done ≤ l.count;
  put : IsPut l.fn.steps.items l.steps.items l.after l.place (λ rows us. counted_row l.set l.done us (rows us));
}

abbrev pub decreases-loop-done : goal.decreases-loop-done
decreases-loop-done l = l.count - l.done
