use Rattle.std.proofs.Common.{◌≤◌, ◌-◌, length}
use Rattle.hwdb_forms.specs.Internal.{IsCut}
use Rattle.hwdb_forms.proofs.PlainLemmas.{ManyTo}
use Rattle.hwdb_forms.proofs.plain.many_count.Given as goal

abbrev pub invariant-loop-at : goal.invariant-loop-at
invariant-loop-at l = record {
  within : l.at ≤ length l.text;
  cut : IsCut l.text l.at;
  many : ManyTo l.set l.text l.at;
}

abbrev pub decreases-loop-at : goal.decreases-loop-at
decreases-loop-at l = length l.text - l.at
