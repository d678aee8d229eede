use Rattle.std.proofs.Common.{◌≤◌, ◌-◌, length}
use Rattle.hwdb_spec.specs.Patterns.{tokens}
use Rattle.hwdb_forms.specs.Internal.{IsCut, fields_of}
use Rattle.hwdb_forms.proofs.PlainLemmas.{FieldsTo}
use Rattle.hwdb_forms.proofs.templates.meets_ways.Given as goal

abbrev pub invariant-loop-done : goal.invariant-loop-done
invariant-loop-done l = record {
  ways : l.done ≤ length l.ways;
  within : l.at ≤ length l.text;
  cut : IsCut l.text l.at;
  met : FieldsTo (fields_of l.fields) (tokens l.text) l.done l.at;
}

abbrev pub decreases-loop-done : goal.decreases-loop-done
decreases-loop-done l = length l.ways - l.done
