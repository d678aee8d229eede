use Rattle.std.proofs.Common.{◌≤◌, ◌-◌, length}
use Rattle.hwdb_forms.specs.Internal.{IsCut}
use Rattle.hwdb_forms.proofs.PlainLemmas.{GoesOn}
use Rattle.hwdb_forms.proofs.plain.plain_count.Given as goal

abbrev pub invariant-loop-at : goal.invariant-loop-at
invariant-loop-at l = record {
  most : l.at ≤ l.most;
  within : l.at ≤ length l.text;
  cut : IsCut l.text l.at;
  passed : GoesOn l.set l.text l.at;
}

abbrev pub decreases-loop-at : goal.decreases-loop-at
decreases-loop-at l = l.most - l.at
