use Rattle.std.proofs.Common.{◌≡◌, ◌≤◌, ◌∷◌, List, length}
use Rattle.hwdb_spec.specs.Patterns.{Token, token_at}
use Rattle.hwdb_forms.specs.Internal.{any_met, left, places}
use Rattle.hwdb_forms.proofs.walks.past_byte.Given as goal

abbrev pub invariant-loop-at : goal.invariant-loop-at
invariant-loop-at l = record {
  within : l.at ≤ length l.fn.now.items;
  now : length l.now.items ≡ length l.fn.now.items;
  next : length l.next.items ≡ length l.fn.now.items;
  left : (us : List Token) → left l.at l.now.items l.next.items (places l.steps) (token_at l.text) us ≡ any_met l.fn.now.items (places l.steps) ((token_at l.text) ∷ us);
}

abbrev pub decreases-loop-at : goal.decreases-loop-at
decreases-loop-at l = l.at
