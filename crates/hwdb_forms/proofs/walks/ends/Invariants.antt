use Rattle.std.proofs.Common.{◌≡◌, ◌≤◌, [], length, take}
use Rattle.hwdb_forms.specs.Internal.{any_met, places}
use Rattle.hwdb_forms.proofs.walks.ends.Given as goal

abbrev pub invariant-loop-at : goal.invariant-loop-at
invariant-loop-at l = record {
  within : l.at ≤ length l.fn.now.items;
  long : length l.now.items ≡ length l.fn.now.items;
  met : any_met (take l.at l.now.items) (places l.steps) [] ≡ any_met l.fn.now.items (places l.steps) [];
}

abbrev pub decreases-loop-at : goal.decreases-loop-at
decreases-loop-at l = l.at
