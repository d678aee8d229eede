use Rattle.std.proofs.Common.{◌≡◌, ◌≤◌, ◌-◌, length, drop}
use Rattle.hwdb_forms.specs.Internal.{passed_counted, views}
use Rattle.hwdb_forms.proofs.leads.pass_counted.Given as goal

abbrev pub invariant-loop-at : goal.invariant-loop-at
invariant-loop-at l = record {
  within : l.at ≤ length l.tokens;
  most : l.at ≤ l.count;
  rest : passed_counted l.set (l.count - l.at) (drop l.at (views l.tokens)) ≡ passed_counted l.set l.count (views l.tokens);
}

abbrev pub decreases-loop-at : goal.decreases-loop-at
decreases-loop-at l = l.count - l.at
