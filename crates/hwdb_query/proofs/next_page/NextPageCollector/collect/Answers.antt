use Rattle.std.proofs.Common.{◌≡◌, ◌∙◌, ◌-◌, ◌<◌, ap, sym, subst, drop, take, length, arith, add-one}
use Rattle.hwdb_reader.specs.Views.{entered_tree}
use Rattle.hwdb_spec.specs.Tree.{values_of}
use Rattle.hwdb_query.specs.Internal.Members.{own_members}
use Rattle.hwdb_query.specs.Internal.Collected.{PageCollects}
use Rattle.hwdb_query.proofs.BackwardsLemmas.{walked_to, none_walked, one_walked}
use Rattle.hwdb_query.proofs.next_page.NextPageCollector.collect.Goals as goal
use Rattle.hwdb_query.proofs.next_page.NextPageCollector.collect.Goals.{then-falls, else-falls}

pub loop-step-init : goal.loop-step-init
loop-step-init c = none_walked c.args.self.now c.args.pattern.now c.mostly_fall-falls.result (values_of (entered_tree c.args.inside))

pub loop-step-preserved : goal.loop-step-preserved
loop-step-preserved c =
    let pattern = c.args.pattern.now in
    let values = values_of (entered_tree c.args.inside) in
    let falls = c.mostly_fall-falls.result in
    let step = c.loop-step.step in
    let size = c.values-count.ensures in
    let within : step < length values = subst (λ n. step < n) size c.loop-step-test.true in
    let at : c.if-falls.i ≡ walked_to falls step values =
    elim c.if-falls.branch [
      | then-falls w ↦
          let is = w.i-is in
          let back : c.if-falls.i ≡ length values - 1 - step = omega (arith, is, size) in
          back ∙ sym (ap (λ f. walked_to f step values) w.if-falls.true)
      | else-falls w ↦ w.i-is ∙ sym (ap (λ f. walked_to f step values) w.if-falls.false)
    ] in
    rw add-one (one_walked c.args.self.now c.loop-step.self c.collect_one.new.self pattern falls (entered_tree c.args.inside) step c.law_ascending.ensures within c.loop-step.invariant
    (subst (λ i. PageCollects c.loop-step.self (own_members pattern (take 1 (drop i values))) c.collect_one.new.self) at c.in_ok-collect_one.ensures))
