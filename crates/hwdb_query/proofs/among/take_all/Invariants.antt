use Rattle.std.proofs.Common.{map, drop}
use Rattle.hwdb_query.specs.Internal.Collected.{LastCollects}
use Rattle.hwdb_query.specs.Views.{assignment_of_answer}
use Rattle.hwdb_query.specs.declared.last_hits.LastHits.{LastHits}
use Rattle.hwdb_query.proofs.among.take_all.Given as goal

abbrev pub invariant-loop-i : goal.invariant-loop-i
invariant-loop-i l =
    (end : LastHits) → LastCollects l.last (map assignment_of_answer (drop l.i l.found)) end
    → LastCollects l.fn.last (map assignment_of_answer l.found) end
