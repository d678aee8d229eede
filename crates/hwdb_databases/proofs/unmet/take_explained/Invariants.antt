use Rattle.std.proofs.Common.{take}
use Rattle.hwdb_query.specs.Views.{explained_values}
use Rattle.hwdb_databases.specs.Internal.Unmet.{HasTaken, answered}
use Rattle.hwdb_databases.proofs.unmet.take_explained.Given as goal

abbrev pub invariant-loop-explained : goal.invariant-loop-explained
invariant-loop-explained l = HasTaken l.fn.still l.still (answered (explained_values (take l.explained-index l.list)))
