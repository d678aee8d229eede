use Rattle.std.proofs.Common.{◌≡◌, ◌+◌, ◌++◌, take, drop, map}
use Rattle.hwdb_pattern.proofs.lists.advance.Given as goal

abbrev pub invariant-loop-n : goal.invariant-loop-n
invariant-loop-n l = l.lengths ≡ map (λ n. n + 1) (take l.n-index l.initial.lengths) ++ drop l.n-index l.initial.lengths
