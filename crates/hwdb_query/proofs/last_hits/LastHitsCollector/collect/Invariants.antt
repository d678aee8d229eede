use Rattle.std.proofs.Common.{drop}
use Rattle.hwdb_reader.specs.Views.{entered_tree}
use Rattle.hwdb_spec.specs.Tree.{values_of}
use Rattle.hwdb_query.specs.Internal.Members.{own_members}
use Rattle.hwdb_query.specs.Internal.Collected.{LastCollects}
use Rattle.hwdb_query.specs.declared.last_hits.LastHits.{LastHits}
use Rattle.hwdb_query.proofs.last_hits.LastHitsCollector.collect.Given as goal

abbrev pub invariant-loop-i : goal.invariant-loop-i
invariant-loop-i l =
    (end : LastHits) → LastCollects l.self (own_members l.pattern (drop l.i (values_of (entered_tree l.inside)))) end
    → LastCollects l.fn.self (own_members l.pattern (values_of (entered_tree l.inside))) end
