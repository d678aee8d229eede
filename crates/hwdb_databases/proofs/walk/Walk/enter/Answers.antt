use Rattle.std.proofs.Common.{All, subst, refl, ◌∙◌, ◌++◌, ◌∷◌, [], List, sym, ap, arith, inl, inr}
use Rattle.hwdb_reader.specs.Views.{children_of}
use Rattle.hwdb_databases.specs.declared.walk.OpenVisit.{OpenVisit}
use Rattle.hwdb_databases.proofs.WalkLemmas.{no_kids}
use Rattle.std.proofs.lemmas.List.Elements.{All-push}
use Rattle.hwdb_databases.specs.Internal.Walks.{IsOpenIn}
use Rattle.hwdb_databases.proofs.walk.Walk.enter.Goals as goal

pub returns-clause-stack : goal.returns-clause-stack
returns-clause-stack c = inl (record {
  top = _;
  stands = c.in_ok-push-2.ensures.items ∙ ap (λ (l : List OpenVisit). l ++ record { inside = c.enter-inside.result; done = 0; length = c.len-length.result } ∷ []) c.reserve.ensures.items;
  tree = c.enter-inside.ensures.same;
  none_done = refl;
  reach = let read = c.len-length.ensures in let size = c.push.new.self.segments.ok in omega (arith, read, size);
})

pub returns-then-children-eq0-clause-stack : goal.returns-then-children-eq0-clause-stack
returns-then-children-eq0-clause-stack c =
    let count = c.children.ensures in
    let zero_is = c.if-children-eq0.true in
    inr (c.in_ok-reserve.ensures.items, ap children_of (sym c.enter-inside.ensures.same) ∙ no_kids _ (omega (arith, count, zero_is)))

pub returns-clause-files : goal.returns-clause-files
returns-clause-files c f is all =
    let top : OpenVisit = record { inside = c.enter-inside.result; done = 0; length = c.len-length.result } in
    subst (All (IsOpenIn f)) (sym (c.in_ok-push-2.ensures.items ∙ ap (λ (l : List OpenVisit). l ++ top ∷ []) c.reserve.ensures.items))
    (All-push (IsOpenIn f) _ top all (c.enter-inside.ensures.file ∙ is))

pub returns-then-children-eq0-clause-files : goal.returns-then-children-eq0-clause-files
returns-then-children-eq0-clause-files c f is all = subst (All (IsOpenIn f)) (sym c.in_ok-reserve.ensures.items) all
