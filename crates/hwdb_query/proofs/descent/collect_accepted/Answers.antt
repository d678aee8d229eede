use Rattle.std.proofs.lemmas.Result.{on_ok_weaker}
use Rattle.hwdb_reader.specs.Views.{entered_tree}
use Rattle.hwdb_spec.specs.Tree.{values_of}
use Rattle.hwdb_query.proofs.StepLemmas.{match_is, mismatch_is}
use Rattle.hwdb_query.proofs.DescentLemmas.{own_collected, own_left}
use Rattle.hwdb_query.proofs.descent.collect_accepted.Goals as goal

pub returns-then-not-accepts : goal.returns-then-not-accepts
returns-then-not-accepts g c =
    own_left g.C.Collector.collects c.law_collects.ensures.none c.args.reach.now.device c.args.pattern.now (values_of (entered_tree c.args.inside)) c.args.into.now
    (mismatch_is c.matches_is_tested.ensures c.args.reach.now.device c.args.pattern.now _ c.if-not-accepts.true c.accepts.ensures)

pub returns : goal.returns
returns g c =
    on_ok_weaker c.collect.result
    (λ taken. own_collected g.C.Collector.collects c.args.reach.now.device c.args.pattern.now (values_of (entered_tree c.args.inside)) c.args.into.now c.collect.new.self
    (match_is c.matches_is_tested.ensures c.args.reach.now.device c.args.pattern.now _ c.if-not-accepts.false c.accepts.ensures) taken) c.collect.ensures
