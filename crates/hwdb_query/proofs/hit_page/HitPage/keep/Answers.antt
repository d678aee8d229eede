use Rattle.std.proofs.Common.{ap, sym, subst, ◌∙◌, ◌≡◌, take, length, arith, refl, false}
use Rattle.hwdb_spec.specs.Assignment.{assignment_cmp, put}
use Rattle.std.specs.List.Sorted.{IsStrictlySortedBy}
use Rattle.hwdb_query.specs.Views.{Page, assignments_of_hits}
use Rattle.hwdb_query.specs.Internal.Hits.{new_assignment, placed}
use Rattle.hwdb_query.proofs.NewHitLemmas.{not_kept}
use Rattle.hwdb_query.proofs.PlaceLemmas.{kept_here, founds_length}
use Rattle.hwdb_query.proofs.hit_page.HitPage.keep.Goals as goal

pub returns-in_default-clause-kept : goal.returns-in_default-clause-kept
returns-in_default-clause-kept c = λ up. sym (c.place_for.ensures.none c.in_default.is up (new_assignment c.args.hit) refl)

pub returns-clause-kept : goal.returns-clause-kept
returns-clause-kept c = λ up.
    let x = new_assignment c.args.hit in
    let o = c.args.self.now.hits in
    let i = c.in-Some.index in
    let old : assignments_of_hits c.self.inside.hits.items ≡ o = ap (λ (p : Page). p.hits) c.self.view_is in
    let most : c.self.inside.most ≡ c.args.self.now.most = ap (λ (p : Page). p.most) c.self.view_is in
    let pattern = c.in_ok-pattern.ensures.items_if_clones_equal (λ _ _ e. e) in
    let within = c.in-Some.ensures.within in
    kept_here c.self.inside.most 0 i c.self.inside.hits.items c.self.inside.hits.items c.insert.new.self.items c.truncate.new.self.items
    _ x o (omega (arith, within.1, most)) (omega (arith, within.0, ap length (sym old), founds_length c.self.inside.hits.items)) old
    (ap (λ p. record x { position = record x.position { pattern = p } }) pattern) c.truncate.ensures.items c.in_ok-insert.ensures.items (c.in-Some.ensures.put up x refl)
    ∙ ap (λ m. take m (put assignment_cmp x o)) most

-- what isn't kept takes no memory
pub returns-in_err-pattern-clause-free : goal.returns-in_err-pattern-clause-free
returns-in_err-pattern-clause-free c = λ up stays.
    let x = new_assignment c.args.hit in
    let hits = c.self.inside.hits.items in
    let old : assignments_of_hits hits ≡ c.args.self.now.hits = ap (λ (p : Page). p.hits) c.self.view_is in
    let within = c.in-Some.ensures.within in
    let still = subst (λ l. take c.args.self.now.most (put assignment_cmp x l) ≡ l) (sym old) stays in
    let put_at = subst (λ l. put assignment_cmp x l ≡ placed x l c.in-Some.index false) (sym old) (c.in-Some.ensures.put up x refl) in
    absurd (not_kept x hits c.in-Some.index c.args.self.now.most (subst (IsStrictlySortedBy assignment_cmp) (sym old) up)
    (omega (arith, within.0, ap length (sym old), founds_length hits)) within.1 put_at still)

pub returns-in_err-insert-clause-free : goal.returns-in_err-insert-clause-free
returns-in_err-insert-clause-free c = λ up stays.
    let x = new_assignment c.args.hit in
    let hits = c.self.inside.hits.items in
    let old : assignments_of_hits hits ≡ c.args.self.now.hits = ap (λ (p : Page). p.hits) c.self.view_is in
    let within = c.in-Some.ensures.within in
    let still = subst (λ l. take c.args.self.now.most (put assignment_cmp x l) ≡ l) (sym old) stays in
    let put_at = subst (λ l. put assignment_cmp x l ≡ placed x l c.in-Some.index false) (sym old) (c.in-Some.ensures.put up x refl) in
    absurd (not_kept x hits c.in-Some.index c.args.self.now.most (subst (IsStrictlySortedBy assignment_cmp) (sym old) up)
    (omega (arith, within.0, ap length (sym old), founds_length hits)) within.1 put_at still)
