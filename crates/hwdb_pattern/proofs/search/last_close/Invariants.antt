use Rattle.std.proofs.Common.{◌≡◌, ◌<◌, ◌≤◌, ℕ, get_or}
use Rattle.hwdb_pattern.proofs.search.last_close.Given as goal

abbrev pub invariant-loop-i : goal.invariant-loop-i
invariant-loop-i l = (k : ℕ) → l.close ≤ k → k < l.i → get_or l.pattern k 0 ≡ 93 → ⊥
