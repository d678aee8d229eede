use Rattle.std.proofs.Common.{List}
use Rattle.hwdb_writer.specs.Internal.Spine.{Frame, IsBuilt}
use Rattle.hwdb_writer.proofs.builder.post_order.Given as goal

abbrev pub invariant-loop-number : goal.invariant-loop-number
invariant-loop-number l = (fs : List Frame) × IsBuilt l.entries l.number l.builder fs
