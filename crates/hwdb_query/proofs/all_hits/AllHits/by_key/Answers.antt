use Rattle.std.proofs.Common.{ap, sym, subst, [], ◌∷◌, ◌++◌, map, append_assoc}
use Rattle.std.proofs.lemmas.List.{append-nil}
use Rattle.hwdb_query.specs.Internal.Explaining.{IsByKey, assignment_at_place}
use Rattle.hwdb_query.proofs.GroupLemmas.{none_by_key}
use Rattle.hwdb_query.proofs.all_hits.AllHits.by_key.Goals as goal

pub loop-place-init : goal.loop-place-init
loop-place-init c = λ end adds.
    subst (IsByKey end) (ap (map assignment_at_place) c.into_iter-place-iterator.ensures.into_iter_gives.0)
    (adds [] (none_by_key c.new-by_key.result c.new-by_key.ensures))

pub loop-place-preserved : goal.loop-place-preserved
loop-place-preserved c = λ end adds. c.loop-place.invariant end
    (λ before is.
    let x = assignment_at_place (c.in-Some.place, c.in-Some.content) in
    let rest = map assignment_at_place c.next.new.self in
    subst (λ l. IsByKey end (before ++ map assignment_at_place l)) (sym c.in-Some.ensures.steps)
    (subst (IsByKey end) (append_assoc before (x ∷ []) rest) (adds (before ++ x ∷ []) (c.in_ok-add.ensures before is))))

pub returns : goal.returns
returns c = c.loop-place.invariant c.loop-place.by_key
    (λ before is. subst (λ l. IsByKey c.loop-place.by_key (before ++ map assignment_at_place l)) (sym c.in-None.ensures.steps.0)
    (subst (IsByKey c.loop-place.by_key) (sym (append-nil before)) is))
