use Rattle.std.proofs.Common.{ap, arith, filter}
use Rattle.hwdb_reader.specs.Views.{entered_tree}
use Rattle.hwdb_spec.specs.Tree.{values_of}
use Rattle.hwdb_spec.specs.Answers.{is_wanted}
use Rattle.hwdb_query.specs.Internal.LongPaths.{path_of}
use Rattle.hwdb_query.specs.Lemmas.Parts.{own_after}
use Rattle.hwdb_query.proofs.DescentLemmas.{collected_none}
use Rattle.hwdb_query.proofs.descent.collect_matching.Goals as goal

pub returns-then-values-eq0-clause-collected : goal.returns-then-values-eq0-clause-collected
returns-then-values-eq0-clause-collected g c =
    let n = c.values.ensures in
    let z = c.if-values-eq0.true in
    collected_none g.C.Collector.collects c.law_collects.ensures.none c.args.into.now _
    (ap (filter (is_wanted c.args.reach.now.device)) (own_after (path_of c.args.path.now) (values_of (entered_tree c.args.inside)) 0 (omega (arith, n, z))))
