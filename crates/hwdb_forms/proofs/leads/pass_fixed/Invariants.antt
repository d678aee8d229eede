use Rattle.std.proofs.Common.{◌≡◌, ◌≤◌, ◌-◌, length, drop}
use Rattle.hwdb_forms.specs.Internal.{passed_fixed, views}
use Rattle.hwdb_forms.proofs.leads.pass_fixed.Given as goal

abbrev pub invariant-loop-at : goal.invariant-loop-at
invariant-loop-at l = record {
  within : l.at ≤ length l.tokens;
  rest : passed_fixed (drop l.at l.bytes) (drop l.at (views l.tokens)) ≡ passed_fixed l.bytes (views l.tokens);
}

abbrev pub decreases-loop-at : goal.decreases-loop-at
decreases-loop-at l = length l.bytes - l.at
