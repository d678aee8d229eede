use Rattle.std.proofs.Common.{drop}
use Rattle.hwdb_reader.specs.Views.{entered_tree}
use Rattle.hwdb_spec.specs.Tree.{values_of}
use Rattle.hwdb_query.specs.Internal.Members.{own_members}
use Rattle.hwdb_query.specs.Internal.Explaining.{AllCollects}
use Rattle.hwdb_query.specs.declared.all_hits.AllHits.{AllHits}
use Rattle.hwdb_query.proofs.all_hits.AllHitsCollector.collect.Given as goal

abbrev pub invariant-loop-i : goal.invariant-loop-i
invariant-loop-i l =
    (end : AllHits) → AllCollects l.self (own_members l.pattern (drop l.i (values_of (entered_tree l.inside)))) end
    → AllCollects l.fn.self (own_members l.pattern (values_of (entered_tree l.inside))) end
