use Rattle.std.proofs.Common.{◌≡◌, ◌<◌, ◌≤◌, ℕ, false, get_or}
use Rattle.hwdb_spec.specs.Patterns.{admits_byte, token_at}
use Rattle.hwdb_pattern.proofs.rests.next_admitted.Given as goal

abbrev pub invariant-loop-place : goal.invariant-loop-place
invariant-loop-place l = (k : ℕ) → l.at ≤ k → k < l.place → admits_byte (token_at l.text) (get_or l.bytes k 0) ≡ false
