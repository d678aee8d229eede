use Rattle.std.proofs.Common.{◌≡◌, ◌∙◌, sym}
use Rattle.std.specs.declared.cmp.Ordering.TheVariants.{Less}
use Rattle.hwdb_spec.specs.Assignment.{assignment_cmp, position_cmp}
use Rattle.hwdb_query.specs.Views.{assignment_of_hit}
use Rattle.hwdb_query.proofs.HalvingLemmas.{full_page}
use Rattle.hwdb_query.proofs.hit_page.HitPage.is_full_below.Goals as goal
use Rattle.hwdb_spec.specs.Lemmas.Orders.{less_of}

pub returns-in-Some : goal.returns-in-Some
unfolding assignment_cmp
returns-in-Some c = λ is up x e.
    let numbers = c.order.ensures ∙ (λ i. position_cmp (c.parts.ensures i) (sym e i)) in
    let less : position_cmp (assignment_of_hit c.in-Some.last.now).position x.position ≡ Less = sym numbers ∙ less_of _ (sym c.is_lt.ensures ∙ is) in
    full_page x c.self.inside.hits.items c.deref.result.now c.in-Some.last.now c.self.inside.most c.args.self.now c.deref.ensures.value c.self.view_is c.self.invariant c.in-Some.ensures up less
