use Rattle.std.proofs.Common.{◌≡◌, rules, sym, subst}
use Rattle.std.specs.List.{HoldsAt}
use Rattle.std.specs.List.Sorted.{IsBinarySearchResult}
use Rattle.std.proofs.lemmas.Fn.{always_returns_same}
use Rattle.std.specs.declared.cmp.Ordering.TheVariants.{Equal}
use Rattle.hwdb_spec.specs.Assignment.{position_cmp}
use Rattle.hwdb_query.specs.Internal.Hits.{parts_position}
use Rattle.hwdb_query.specs.Views.{assignment_of_hit}
use Rattle.hwdb_query.proofs.HalvingLemmas.{found_taken, found_free}
use Rattle.hwdb_query.proofs.hit_page.place_of.Goals as goal

pub returns-in-Ok-clause-place : goal.returns-in-Ok-clause-place
returns-in-Ok-clause-place c = λ up x e.
    let at = c.in-Ok.ensures.position (λ h. position_cmp (assignment_of_hit h).position (parts_position c.args.parts)) (always_returns_same _ _ _ (λ a r g called. (search rules, search rules))) in
    found_taken x c.args.hits.now c.in-Ok.index up c.in-Ok.ensures.bound (subst (λ s. HoldsAt (λ y. position_cmp (assignment_of_hit y).position s ≡ Equal) c.args.hits.now c.in-Ok.index) (sym e) at)

pub returns-in-Err-clause-place : goal.returns-in-Err-clause-place
returns-in-Err-clause-place c = λ up x e.
    let at = c.binary_search_by.ensures.position (λ h. position_cmp (assignment_of_hit h).position (parts_position c.args.parts)) (always_returns_same _ _ _ (λ a r g called. (search rules, search rules))) in
    found_free x c.args.hits.now c.in-Err.index c.binary_search_by.result up c.in-Err.is c.binary_search_by.ensures.bound (subst (λ s. IsBinarySearchResult (λ y. position_cmp (assignment_of_hit y).position s) c.args.hits.now c.binary_search_by.result) (sym e) at)
