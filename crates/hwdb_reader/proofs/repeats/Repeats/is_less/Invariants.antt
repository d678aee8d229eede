use Rattle.hwdb_reader.specs.Internal.Repeats.{AgreeInside}
use Rattle.hwdb_reader.proofs.repeats.Repeats.is_less.Given as goal

abbrev pub invariant-loop-n : goal.invariant-loop-n
invariant-loop-n l = AgreeInside l.b l.left l.right l.n
