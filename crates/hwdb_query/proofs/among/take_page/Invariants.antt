use Rattle.std.proofs.Common.{map, drop}
use Rattle.hwdb_query.specs.Internal.Collected.{PageCollects}
use Rattle.hwdb_query.specs.Views.{assignment_of_answer}
use Rattle.hwdb_query.specs.declared.next_page.NextPage.{NextPage}
use Rattle.hwdb_query.proofs.among.take_page.Given as goal

abbrev pub invariant-loop-i : goal.invariant-loop-i
invariant-loop-i l =
    (end : NextPage) → PageCollects l.page (map assignment_of_answer (drop l.i l.found)) end
    → PageCollects l.fn.page (map assignment_of_answer l.found) end
