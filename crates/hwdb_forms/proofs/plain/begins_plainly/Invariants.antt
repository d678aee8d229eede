use Rattle.std.proofs.Common.{◌≡◌, ◌≤◌, ◌-◌, length, drop}
use Rattle.hwdb_spec.specs.Patterns.{tokens}
use Rattle.hwdb_forms.specs.Internal.{IsCut, passed_fixed}
use Rattle.hwdb_forms.specs.declared.leads.Passed.TheVariants.{Yes}
use Rattle.hwdb_forms.proofs.plain.begins_plainly.Given as goal

abbrev pub invariant-loop-at : goal.invariant-loop-at
invariant-loop-at l = record {
  most : l.at ≤ length l.bytes;
  within : l.at ≤ length l.text;
  cut : IsCut l.text l.at;
  passed : passed_fixed (drop l.at l.bytes) (tokens (drop l.at l.text)) ≡ Yes → passed_fixed l.bytes (tokens l.text) ≡ Yes;
}

abbrev pub decreases-loop-at : goal.decreases-loop-at
decreases-loop-at l = length l.bytes - l.at
