use Rattle.std.proofs.Common.{map, take}
use Rattle.hwdb_databases.specs.Internal.Unmet.{HasTaken}
use Rattle.hwdb_databases.specs.Views.{assignment_of}
use Rattle.hwdb_databases.proofs.unmet.take_answers.Given as goal

abbrev pub invariant-loop-answer : goal.invariant-loop-answer
invariant-loop-answer l = HasTaken l.fn.still l.still (map assignment_of (take l.answer-index l.found))
