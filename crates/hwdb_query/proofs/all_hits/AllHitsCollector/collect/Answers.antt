use Rattle.std.proofs.Common.{arith, add-one, subst}
use Rattle.hwdb_query.specs.Internal.Members.{assignment_shown}
use Rattle.hwdb_reader.specs.Views.{entered_tree, entry_shows}
use Rattle.hwdb_spec.specs.Tree.{values_of}
use Rattle.hwdb_query.specs.Internal.Explaining.{AllCollects}
use Rattle.hwdb_query.proofs.AllHitsLemmas.{all_values_next, all_values_over}
use Rattle.hwdb_query.proofs.all_hits.AllHitsCollector.collect.Goals as goal

pub loop-i-preserved : goal.loop-i-preserved
loop-i-preserved c =
    let values = values_of (entered_tree c.args.inside) in
    rw add-one (λ end rest. c.loop-i.invariant end
    (all_values_next c.loop-i.self c.offer.new.self end c.args.pattern.now values c.loop-i.i (entry_shows c.value.result) c.value.ensures (subst (λ p. AllCollects c.loop-i.self (assignment_shown p (entry_shows c.value.result)) c.offer.new.self) c.in_ok-shared.ensures c.in_ok-offer.ensures) rest))

pub returns : goal.returns
returns c =
    let values = values_of (entered_tree c.args.inside) in
    let n = c.values-i-end.ensures in
    c.loop-i.invariant c.loop-i.self (all_values_over c.loop-i.self c.args.pattern.now values c.loop-i.i (omega (arith, n, c.loop-i-test.false)))
