use Rattle.std.proofs.Common.{◌≡◌, ◌≤◌, ◌∷◌, List, length}
use Rattle.hwdb_spec.specs.Patterns.{Token, star}
use Rattle.hwdb_forms.specs.Internal.{any_met, left, places}
use Rattle.hwdb_forms.proofs.walks.past_star.Given as goal

abbrev pub invariant-loop-at : goal.invariant-loop-at
invariant-loop-at l = record {
  within : l.at ≤ length l.fn.now.items;
  now : length l.now.items ≡ length l.fn.now.items;
  next : length l.next.items ≡ length l.fn.now.items;
  left : (us : List Token) → left l.at l.now.items l.next.items (places l.steps) star us ≡ any_met l.fn.now.items (places l.steps) (star ∷ us);
}

abbrev pub decreases-loop-at : goal.decreases-loop-at
decreases-loop-at l = l.at
