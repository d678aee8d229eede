use Rattle.std.proofs.Common.{take}
use Rattle.hwdb_check.specs.Internal.{IsSetOf}
use Rattle.hwdb_check.proofs.repeats.set_of.Given as goal

abbrev pub invariant-loop-number : goal.invariant-loop-number
invariant-loop-number l = IsSetOf (take l.number-index l.numbers) l.set
