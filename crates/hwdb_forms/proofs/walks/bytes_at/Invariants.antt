use Rattle.std.proofs.Common.{◌≡◌, ◌≤◌, ◌<◌, ◌∷◌, [], ℕ, length, take, true}
use Rattle.std.specs.Prelude.{if◌then◌else◌}
use Rattle.hwdb_spec.specs.Patterns.{literal, star}
use Rattle.hwdb_forms.specs.Internal.{any_met, has_byte, places}
use Rattle.hwdb_forms.proofs.walks.bytes_at.Given as goal

abbrev pub invariant-loop-at : goal.invariant-loop-at
invariant-loop-at l = record {
  within : l.at ≤ length l.fn.now.items;
  long : length l.now.items ≡ length l.fn.now.items;
  met : (b : ℕ) → b < 256 → (if has_byte l.bytes b then true else any_met (take l.at l.now.items) (places l.steps) (literal b ∷ star ∷ [])) ≡ any_met l.fn.now.items (places l.steps) (literal b ∷ star ∷ []);
}

abbrev pub decreases-loop-at : goal.decreases-loop-at
decreases-loop-at l = l.at
