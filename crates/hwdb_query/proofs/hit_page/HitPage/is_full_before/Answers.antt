use Rattle.hwdb_spec.specs.Assignment.{assignment_cmp}
use Rattle.hwdb_query.specs.Views.{assignment_of_hit}
use Rattle.hwdb_query.proofs.HalvingLemmas.{full_page}
use Rattle.hwdb_query.proofs.hit_page.HitPage.is_full_before.Goals as goal

pub returns-in-Some : goal.returns-in-Some
unfolding assignment_cmp
returns-in-Some c = λ is up x e.
    full_page x c.self.inside.hits.items c.deref.result.now c.in-Some.last.now c.self.inside.most c.args.self.now c.deref.ensures.value c.self.view_is c.self.invariant c.in-Some.ensures up
    (c.is_earlier.ensures is (assignment_of_hit c.in-Some.last.now).position x.position c.origin.ensures e)
