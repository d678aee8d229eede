use Rattle.std.proofs.Common.{map, drop}
use Rattle.hwdb_query.specs.Internal.Explaining.{AllCollects}
use Rattle.hwdb_query.specs.Views.{assignment_of_answer}
use Rattle.hwdb_query.specs.declared.all_hits.AllHits.{AllHits}
use Rattle.hwdb_query.proofs.among.take_each.Given as goal

abbrev pub invariant-loop-i : goal.invariant-loop-i
invariant-loop-i l =
    (end : AllHits) → AllCollects l.all (map assignment_of_answer (drop l.i l.found)) end
    → AllCollects l.fn.all (map assignment_of_answer l.found) end
