use Rattle.std.proofs.Common.{◌≡◌, ◌∙◌, ap, sym, eqb-true, vec_len, [], List, reverse, arith}
use Rattle.hwdb_query.specs.Internal.Descents.{to_come}
use Rattle.hwdb_query.specs.Internal.LongPaths.{path_of}
use Rattle.hwdb_query.specs.declared.descent.OpenNode.{OpenNode}
use Rattle.hwdb_query.proofs.DescentLemmas.{collected_none}
use Rattle.hwdb_query.proofs.StackLemmas.{none_open}
use Rattle.hwdb_query.proofs.descent.descend.Goals as goal

pub returns-clause-collected : goal.returns-clause-collected
returns-clause-collected g c =
    let ok = c.descending.descent.stack.ok in
    let none : vec_len c.descending.descent.stack ≡ 0 = eqb-true _ 0 (sym c.is_empty.ensures ∙ c.descending-test.false) in
    let ended : c.descending.descent.stack.items ≡ [] = none_open c.descending.descent.stack.items (omega (arith, none, ok)) in
    c.descending.invariant.collected c.descending.into
    (collected_none g.C.Collector.collects c.law_collects.ensures.none c.descending.into _ (ap (λ (b : List OpenNode). to_come c.args.device.now (path_of c.descending.descent.path) (reverse b)) ended))
