use Rattle.std.proofs.Common.{◌≡◌, ◌<◌, ℕ, false, get_or}
use Rattle.hwdb_spec.specs.Patterns.{literal}
use Rattle.hwdb_pattern.specs.Views.{takes}
use Rattle.hwdb_pattern.proofs.lists.is_next_after.Given as goal

abbrev pub invariant-loop-n : goal.invariant-loop-n
invariant-loop-n l = (k : ℕ) → k < l.n-index → takes (literal l.byte) l.device (get_or l.lengths k 0) ≡ false
