use Rattle.std.proofs.Common.{◌≤◌, ◌-◌}
use Rattle.hwdb_spec.specs.Patterns.{tokens}
use Rattle.hwdb_forms.specs.Internal.{IsCut, LedTo, units}
use Rattle.hwdb_forms.proofs.templates.template_count.Given as goal

abbrev pub invariant-loop-at : goal.invariant-loop-at
invariant-loop-at l = record {
  most : l.at ≤ l.most;
  cut : IsCut l.text l.at;
  led : LedTo (units l.template) (tokens l.text) l.at l.at;
}

abbrev pub decreases-loop-at : goal.decreases-loop-at
decreases-loop-at l = l.most - l.at
