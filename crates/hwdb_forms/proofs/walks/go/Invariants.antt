use Rattle.std.proofs.Common.{◌≡◌, ◌≤◌, ◌<◌, ◌-◌, ◌∷◌, ◌++◌, [], List, length, take, true}
use Rattle.hwdb_spec.specs.Patterns.{Token, star}
use Rattle.hwdb_forms.specs.Internal.{any_met, met_at, places, views}
use Rattle.hwdb_forms.proofs.walks.go.Given as goal

abbrev pub invariant-loop-at : goal.invariant-loop-at
invariant-loop-at l = record {
  within : l.at ≤ length l.tokens;
  long : length l.now.items ≤ length l.steps;
  met : (us : List Token) → any_met l.now.items (places l.steps) us ≡ met_at (places l.steps) l.entry (take l.at (views l.tokens) ++ us);
  some : 0 < l.at → any_met l.now.items (places l.steps) (star ∷ []) ≡ true;
}

abbrev pub decreases-loop-at : goal.decreases-loop-at
decreases-loop-at l = length l.tokens - l.at
