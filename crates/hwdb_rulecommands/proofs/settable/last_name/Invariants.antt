use Rattle.std.proofs.Common.{length, ◌≡◌, ◌≤◌, drop, false}
use Rattle.hwdb_spec.specs.Lines.{byte, has}
use Rattle.hwdb_rulecommands.proofs.settable.last_name.Given as goal

abbrev pub invariant-loop-at : goal.invariant-loop-at
invariant-loop-at l = record {
  at_in : l.at ≤ length l.path;
  none : has (byte "/") (drop l.at l.path) ≡ false;
}

abbrev pub decreases-loop-at : goal.decreases-loop-at
decreases-loop-at l = l.at
