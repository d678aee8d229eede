use Rattle.std.proofs.Common.{◌≡◌, ◌∙◌, ap, sym, subst, ◌+◌, ◌++◌, ◌∷◌, [], ℕ, take, drop, length, ◌≤◌, arith, add-one, refl}
use Rattle.hwdb_pattern.specs.Views.{StandsFor}
use Rattle.hwdb_spec.specs.Tree.{Tree}
use Rattle.hwdb_reader.specs.Views.{children_of, tree_of, entered_tree}
use Rattle.hwdb_query.specs.Internal.Descents.{kids_of, Passes, IsAt, IsSeen, StandsAt}
use Rattle.hwdb_query.specs.declared.descent.OpenNode.{OpenNode}
use Rattle.hwdb_query.proofs.StackLemmas.{passes_on, passes_all}
use Rattle.hwdb_query.specs.Lemmas.Parts.{kid_next}
use Rattle.hwdb_query.proofs.descent.OpenNode.next_seen.Goals as goal

pub returns-in-Some-clause-found : goal.returns-in-Some-clause-found
returns-in-Some-clause-found c =
    let old = c.args.self.now in
    let done = c.loop-done.done in
    let device = old.reach.device in
    let base = take old.length c.args.path.now.items in
    let k : ℕ × Tree = (c.child-child.result.byte, tree_of c.child-child.result.node) in
    let kids = children_of (entered_tree old.inside) in
    let next : drop done kids ≡ k ∷ drop (done + 1) kids = rw (add-one done) (kid_next kids done k c.child-child.ensures) in
    let seen : IsSeen device (take old.length c.loop-done.path.items) k c.look_at.new.path.items c.in_ok-seen.field-0 =
    subst (λ (o : OpenNode). IsSeen o.reach.device (take o.length c.loop-done.path.items) k c.look_at.new.path.items c.in_ok-seen.field-0) c.loop-done.invariant.still c.in_ok-seen.ensures.seen in
    let at : IsAt device (take old.length c.loop-done.path.items) k (c.look_at.new.path.items ++ c.in-Some.seen.tail.now) c.in-Some.seen.reach =
    subst (λ o. IsSeen device (take old.length c.loop-done.path.items) k c.look_at.new.path.items o) c.in-Some.is seen in (
      subst (λ (o : OpenNode). Passes device base (kids_of old) (k ∷ drop (done + 1) (children_of (entered_tree o.inside)))) (sym c.loop-done.invariant.still)
          (subst (λ l. Passes device base (kids_of old) l) next c.loop-done.invariant.passes),
      subst (λ b. IsAt device b k (c.look_at.new.path.items ++ c.in-Some.seen.tail.now) c.in-Some.seen.reach) c.loop-done.invariant.path at,
    )

pub loop-done-preserved : goal.loop-done-preserved
loop-done-preserved c =
    let old = c.args.self.now in
    let done = c.loop-done.done in
    let device = old.reach.device in
    let base = take old.length c.args.path.now.items in
    let k : ℕ × Tree = (c.child-child.result.byte, tree_of c.child-child.result.node) in
    let kids = children_of (entered_tree old.inside) in
    let next : drop done kids ≡ k ∷ drop (done + 1) kids = rw (add-one done) (kid_next kids done k c.child-child.ensures) in
    let seen : IsSeen device (take old.length c.loop-done.path.items) k c.look_at.new.path.items c.in_ok-seen.field-0 =
    subst (λ (o : OpenNode). IsSeen o.reach.device (take o.length c.loop-done.path.items) k c.look_at.new.path.items c.in_ok-seen.field-0) c.loop-done.invariant.still c.in_ok-seen.ensures.seen in
    let none : Passes device (take old.length c.loop-done.path.items) (k ∷ []) [] =
    subst (λ o. IsSeen device (take old.length c.loop-done.path.items) k c.look_at.new.path.items o) c.in_default.is seen in
    let one : Passes device base (k ∷ []) [] = subst (λ b. Passes device b (k ∷ []) []) c.loop-done.invariant.path none in
    record {
      passes = passes_on device base (kids_of old) (drop done kids) (drop (done + 1) kids) k c.loop-done.invariant.passes next one;
      still = c.loop-done.invariant.still;
      within = subst (λ (o : OpenNode). o.length ≤ length c.look_at.new.path.items) c.loop-done.invariant.still c.in_ok-seen.ensures.within;
      path = subst (λ (o : OpenNode). take o.length c.look_at.new.path.items ≡ take o.length c.loop-done.path.items) c.loop-done.invariant.still c.in_ok-seen.ensures.path ∙ c.loop-done.invariant.path;
    }

pub look_at-requires : goal.look_at-requires
look_at-requires c =
    let old = c.args.self.now in
    let at_old : StandsAt old.reach.device c.loop-done.path.items old = record {
      within = c.loop-done.invariant.within;
      reach = subst (StandsFor old.reach) (sym c.loop-done.invariant.path) c.requires.reach;
      same_device = refl;
    } in
    subst (λ (o : OpenNode). StandsAt o.reach.device c.loop-done.path.items o) (sym c.loop-done.invariant.still) at_old

pub returns-in-Some-clause-same : goal.returns-in-Some-clause-same
returns-in-Some-clause-same c = record {
  inside = ap (λ (o : OpenNode). o.inside) c.loop-done.invariant.still;
  reach = ap (λ (o : OpenNode). o.reach) c.loop-done.invariant.still;
  size = ap (λ (o : OpenNode). o.length) c.loop-done.invariant.still;
}

pub returns-clause-same : goal.returns-clause-same
returns-clause-same c = record {
  inside = ap (λ (o : OpenNode). o.inside) c.loop-done.invariant.still;
  reach = ap (λ (o : OpenNode). o.reach) c.loop-done.invariant.still;
  size = ap (λ (o : OpenNode). o.length) c.loop-done.invariant.still;
}

pub returns-clause-found : goal.returns-clause-found
returns-clause-found c =
    let old = c.args.self.now in
    let device = old.reach.device in
    let base = take old.length c.args.path.now.items in
    let count = c.children-children.ensures in
    let test = c.loop-done-test.false in (
      passes_all device base (kids_of old) (children_of (entered_tree old.inside)) c.loop-done.done c.loop-done.invariant.passes (omega (arith, count, test)),
      c.truncate.ensures.items ∙ ap (λ (o : OpenNode). take o.length c.loop-done.path.items) c.loop-done.invariant.still ∙ c.loop-done.invariant.path,
    )
