use Rattle.std.proofs.Common.{map, take}
use Rattle.hwdb_check.specs.Counted.{AreLeft}
use Rattle.hwdb_check.proofs.baselines.counted.Given as goal

abbrev pub invariant-loop-mark : goal.invariant-loop-mark
invariant-loop-mark l = AreLeft (map (λ t. t.items) (take l.mark-index l.known)) l.left
