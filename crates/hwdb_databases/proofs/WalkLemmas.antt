-- The stack of a walk, and what its steps do to it.
use Rattle.std.proofs.Common.{◌≡◌, ◌∙◌, ap, refl, sym, subst, ℕ, zero, suc, ◌+◌, ◌-◌, ◌≤◌, ◌<◌, List, [], ◌∷◌, ◌++◌, take, drop, reverse, length, arith, append_assoc, add-one, Option, None, Some, false, is_some, IfNone, IsSomeAnd, get_or, slice_get, slice_set, inl, inr}
use Rattle.std.proofs.lemmas.List.{length-take-le, length-append}
use Rattle.std.proofs.Math.Seq.{take-length}
use Rattle.hwdb_spec.specs.Tree.{Tree, prefix_of, values_of, members_under}
use Rattle.hwdb_reader.specs.Views.{children_of, entered_tree, node_count}
use Rattle.hwdb_query.specs.Internal.Members.{members_in, own_members}
use Rattle.hwdb_reader.specs.declared.view.Inside.{Inside}
use Rattle.hwdb_databases.proofs.TrailLemmas.{longer_front, longer_path, longer_size}
use Rattle.hwdb_databases.specs.Internal.Trails.{IsLonger, path_in, path_of}
use Rattle.hwdb_databases.specs.declared.trail.Segment.{Segment}
use Rattle.hwdb_databases.specs.Internal.Walks.{kids_of, to_come, StandsOn, left, steps, OnTop, Opened, own_of, rest_of, entered_one}
use Rattle.hwdb_databases.specs.declared.walk.OpenVisit.{OpenVisit}
use Rattle.hwdb_databases.specs.declared.walk.Walk.{Walk}
use Rattle.hwdb_query.specs.Lemmas.Parts.{kid_behind, kid_next, members_split, node_and_below}
use Rattle.hwdb_query.specs.Internal.Live.{nodes_in}
use Rattle.hwdb_query.specs.Lemmas.Stacks.{on_top}

pub no_kids : (kids : List (ℕ × Tree)) → length kids ≡ 0 → kids ≡ []
no_kids [] h = refl
no_kids (k ∷ kids) h = absurd (omega (arith, h))

-- ---- the stack as a list

last_is : (items : List OpenVisit) (i : ℕ) (o : OpenVisit) → suc i ≡ length items → items ≡ take i items ++ get_or items i o ∷ []
last_is [] i o h = absurd (omega (arith, h))
last_is (x ∷ []) zero o h = refl
last_is (x ∷ y ∷ items) zero o h = absurd (omega (arith, h))
last_is (x ∷ items) (suc i) o h = ap (λ l. x ∷ l) (last_is items i o (omega (arith, h)))

-- another node in the place of the one on top
pub set_is : (items : List OpenVisit) (i : ℕ) (o : OpenVisit) → suc i ≡ length items → slice_set items i o ≡ take i items ++ o ∷ []
set_is [] i o h = absurd (omega (arith, h))
set_is (x ∷ []) zero o h = refl
set_is (x ∷ z ∷ items) zero o h = absurd (omega (arith, h))
set_is (x ∷ items) (suc i) o h = ap (λ l. x ∷ l) (set_is items i o (omega (arith, h)))

before_last : (items : List OpenVisit) (i : ℕ) (o : OpenVisit) → suc i ≡ length items → take i (slice_set items i o) ≡ take i items
before_last [] i o h = absurd (omega (arith, h))
before_last (x ∷ items) zero o h = refl
before_last (x ∷ items) (suc i) o h = ap (λ l. x ∷ l) (before_last items i o (omega (arith, h)))

-- the node on top, and those below it
pub top_of : (items : List OpenVisit) (i : ℕ) (o : OpenVisit) → suc i ≡ length items → o ≡ get_or items i o → reverse items ≡ o ∷ reverse (take i items)
top_of items i o h is = ap reverse (last_is items i o h ∙ ap (λ x. take i items ++ x ∷ []) (sym is)) ∙ on_top (take i items) o

-- it was taken off
pub taken_off : (items rest : List OpenVisit) (i n : ℕ) (o : OpenVisit) → suc i ≡ length items → n ≡ length items → rest ≡ take (n - 1) (slice_set items i o) → rest ≡ take i items
taken_off items rest i n o h e is =
    let size : n - 1 ≡ i = omega (arith, h, e) in
    is ∙ ap (λ m. take m (slice_set items i o)) size ∙ before_last items i o h

-- ---- the node that a walk is at

pub own_entered : (path : List ℕ) (at : Option Inside) (t : Tree) → IsSomeAnd at (λ i. entered_tree i ≡ t) → own_of path at ≡ own_members path (values_of t)
own_entered path None t h = absurd h
own_entered path (Some i) t h = ap (λ u. own_members path (values_of u)) h

-- it is at none
pub at_none : (at : Option Inside) → is_some at ≡ false → at ≡ None
at_none None h = refl
at_none (Some i) h = absurd (cc)

-- it is at one
pub not_none : (at : Option Inside) (t : Tree) (P : Type 0) → IsSomeAnd at (λ i. entered_tree i ≡ t) → IfNone at P
not_none None t P h = absurd h
not_none (Some i) t P h = tt

pub one_entered : (at : Option Inside) (t : Tree) → IsSomeAnd at (λ i. entered_tree i ≡ t) → entered_one at ≡ 1
one_entered None t h = absurd h
one_entered (Some i) t h = refl

-- ---- a node that was put on top

pub top_kids : (before now : List OpenVisit) (t : Tree) (size : ℕ) (o : OnTop before now t size) → kids_of o.top ≡ children_of t
top_kids before now t size o = ap (λ n. drop n (children_of (entered_tree o.top.inside))) o.none_done ∙ ap children_of o.tree

pub top_is : (before now : List OpenVisit) (t : Tree) (size : ℕ) (o : OnTop before now t size) → reverse now ≡ o.top ∷ reverse before
top_is before now t size o = ap reverse o.stands ∙ on_top before o.top

-- ---- a node that was entered

pub opened_size : (before now : List OpenVisit) (t : Tree) (size : ℕ) → Opened before now t size → length now ≤ length before + 1
opened_size before now t size (inl o) = let longer : length now ≡ length before + 1 = ap length o.stands ∙ length-append before (o.top ∷ []) in omega (arith, longer)
opened_size before now t size (inr h) = let same : length now ≡ length before = ap length h.0 in omega (arith, same)

pub opened_comes : (before now : List OpenVisit) (t : Tree) (way : List Segment) → Opened before now t (length way)
    → to_come way (reverse now) ≡ members_in (path_in way) (children_of t) ++ to_come way (reverse before)
opened_comes before now t way (inl o) =
    ap (to_come way) (top_is before now t (length way) o)
    ∙ ap (λ n. members_in (path_in (take n way)) (kids_of o.top) ++ to_come (take n way) (reverse before)) o.reach
    ∙ ap (λ p. members_in (path_in p) (kids_of o.top) ++ to_come p (reverse before)) (take-length way)
    ∙ ap (λ ks. members_in (path_in way) ks ++ to_come way (reverse before)) (top_kids before now t (length way) o)
opened_comes before now t way (inr h) =
    ap (λ l. to_come way (reverse l)) h.0 ∙ ap (λ ks. members_in (path_in way) ks ++ to_come way (reverse before)) (sym h.1)

pub opened_stands : (before now : List OpenVisit) (t : Tree) (way : List Segment) → Opened before now t (length way) → StandsOn way (reverse before) → StandsOn way (reverse now)
opened_stands before now t way (inl o) stands =
    let reach = o.reach in
    let done = o.none_done in
    let same : way ≡ take o.top.length way = sym (ap (λ n. take n way) o.reach ∙ take-length way) in
    subst (StandsOn way) (sym (top_is before now t (length way) o)) (omega (arith, reach), omega (arith, done), subst (λ p. StandsOn p (reverse before)) same stands)
opened_stands before now t way (inr h) stands = subst (λ l. StandsOn way (reverse l)) (sym h.0) stands

pub opened_left : (before now : List OpenVisit) (t : Tree) (size : ℕ) → Opened before now t size → left (reverse now) ≡ nodes_in (children_of t) + left (reverse before)
opened_left before now t size (inl o) = ap left (top_is before now t size o) ∙ ap (λ ks. nodes_in ks + left (reverse before)) (top_kids before now t size o)
opened_left before now t size (inr h) =
    let same : left (reverse now) ≡ left (reverse before) = ap (λ (l : List OpenVisit). left (reverse l)) h.0 in
    let none : nodes_in (children_of t) ≡ 0 = ap nodes_in h.1 in
    omega (arith, same, none)

pub opened_steps : (before now : List OpenVisit) (t : Tree) (size : ℕ) → Opened before now t size → steps (reverse now) ≤ suc (nodes_in (children_of t) + nodes_in (children_of t)) + steps (reverse before)
opened_steps before now t size (inl o) =
    let all : steps (reverse now) ≡ suc (nodes_in (children_of t) + nodes_in (children_of t)) + steps (reverse before) =
    ap steps (top_is before now t size o) ∙ ap (λ ks. suc (nodes_in ks + nodes_in ks) + steps (reverse before)) (top_kids before now t size o) in
    omega (arith, all)
opened_steps before now t size (inr h) =
    let same : steps (reverse now) ≡ steps (reverse before) = ap (λ (l : List OpenVisit). steps (reverse l)) h.0 in
    omega (arith, same)

-- ---- a node whose children are done

pub done_comes : (way : List Segment) (top : OpenVisit) (below : List OpenVisit) → length (children_of (entered_tree top.inside)) ≤ top.done → to_come way (top ∷ below) ≡ to_come (take top.length way) below
done_comes way top below h =
    ap (λ ks. members_in (path_in (take top.length way)) ks ++ to_come (take top.length way) below) (kid_behind (children_of (entered_tree top.inside)) top.done h)

pub done_left : (top : OpenVisit) (below : List OpenVisit) → length (children_of (entered_tree top.inside)) ≤ top.done → left (top ∷ below) ≡ left below
done_left top below h = let none : nodes_in (kids_of top) ≡ 0 = ap nodes_in (kid_behind (children_of (entered_tree top.inside)) top.done h) in omega (arith, none)

pub done_steps : (top : OpenVisit) (below : List OpenVisit) → steps below < steps (top ∷ below)
done_steps top below = omega arith

-- ---- a node with a child that isn't done

-- the node, with one more child done
abbrev pub gone_on : OpenVisit → OpenVisit
gone_on top = record { inside = top.inside; done = top.done + 1; length = top.length }

pub kids_next : (top : OpenVisit) (k : ℕ × Tree) → slice_get (children_of (entered_tree top.inside)) top.done ≡ Some k → kids_of top ≡ k ∷ kids_of (gone_on top)
kids_next top k at = rw (add-one top.done) (kid_next (children_of (entered_tree top.inside)) top.done k at)

pub some_left : (top : OpenVisit) (below : List OpenVisit) (k : ℕ × Tree) → slice_get (children_of (entered_tree top.inside)) top.done ≡ Some k → 0 < left (top ∷ below)
some_left top below k at =
    let next : nodes_in (kids_of top) ≡ node_count k.1 + nodes_in (kids_of (gone_on top)) = ap nodes_in (kids_next top k at) in
    let nodes = node_and_below k.1 in
    omega (arith, next, nodes)

module _ (way long : List Segment) (top : OpenVisit) (before now : List OpenVisit) (k : ℕ × Tree)
    (at : slice_get (children_of (entered_tree top.inside)) top.done ≡ Some k) (within : top.length ≤ length way)
    (whole : IsLonger (take top.length way) long (Some k.0) (prefix_of k.1)) (o : Opened (before ++ gone_on top ∷ []) now k.1 (length long)) where
  size : length (take top.length way) ≡ top.length
  size = length-take-le top.length way within

  cut : take top.length long ≡ take top.length way
  cut =
      let reach = size in
      longer_front top.length (take top.length way) long (Some k.0) (prefix_of k.1) whole (omega (arith, reach))
      ∙ ap (λ n. take n (take top.length way)) (sym size) ∙ take-length (take top.length way)

  pub child_comes : own_members (path_in long) (values_of k.1) ++ to_come long (reverse now) ≡ to_come way (top ∷ reverse before)
  child_comes =
      let base = path_in (take top.length way) in
      let rest = members_in base (kids_of (gone_on top)) in
      let deep = to_come (take top.length way) (reverse before) in
      let spelled : path_in long ≡ (base ++ k.0 ∷ []) ++ prefix_of k.1 =
      longer_path (take top.length way) long (Some k.0) (prefix_of k.1) whole ∙ sym (append_assoc base (k.0 ∷ []) (prefix_of k.1)) in
      let behind : to_come long (reverse (before ++ gone_on top ∷ [])) ≡ rest ++ deep =
      ap (to_come long) (on_top before (gone_on top)) ∙ ap (λ p. members_in (path_in p) (kids_of (gone_on top)) ++ to_come p (reverse before)) cut in
      let here : own_members (path_in long) (values_of k.1) ++ members_in (path_in long) (children_of k.1) ≡ members_under (base ++ k.0 ∷ []) k.1 =
      ap (λ p. own_members p (values_of k.1) ++ members_in p (children_of k.1)) spelled ∙ sym (members_split (base ++ k.0 ∷ []) k.1) in
      ap (λ r. own_members (path_in long) (values_of k.1) ++ r) (opened_comes (before ++ gone_on top ∷ []) now k.1 long o)
      ∙ sym (append_assoc (own_members (path_in long) (values_of k.1)) (members_in (path_in long) (children_of k.1)) (to_come long (reverse (before ++ gone_on top ∷ []))))
      ∙ ap (λ r. r ++ to_come long (reverse (before ++ gone_on top ∷ []))) here
      ∙ ap (λ r. members_under (base ++ k.0 ∷ []) k.1 ++ r) behind
      ∙ sym (append_assoc (members_under (base ++ k.0 ∷ []) k.1) rest deep)
      ∙ ap (λ ks. members_in base ks ++ deep) (sym (kids_next top k at))

  pub child_left : node_count k.1 + left (reverse (before ++ gone_on top ∷ [])) ≡ left (top ∷ reverse before)
  child_left =
      let on : left (reverse (before ++ gone_on top ∷ [])) ≡ nodes_in (kids_of (gone_on top)) + left (reverse before) = ap left (on_top before (gone_on top)) in
      let next : nodes_in (kids_of top) ≡ node_count k.1 + nodes_in (kids_of (gone_on top)) = ap nodes_in (kids_next top k at) in
      omega (arith, on, next)

  pub child_counted : suc (left (reverse now)) ≡ left (top ∷ reverse before)
  child_counted =
      let opened = opened_left (before ++ gone_on top ∷ []) now k.1 (length long) o in
      let nodes = node_and_below k.1 in
      let all = child_left in
      omega (arith, opened, nodes, all)

  pub child_steps : steps (reverse now) < steps (top ∷ reverse before)
  child_steps =
      let opened = opened_steps (before ++ gone_on top ∷ []) now k.1 (length long) o in
      let nodes = node_and_below k.1 in
      let on : steps (reverse (before ++ gone_on top ∷ [])) ≡ suc (nodes_in (kids_of (gone_on top)) + nodes_in (kids_of (gone_on top))) + steps (reverse before) = ap steps (on_top before (gone_on top)) in
      let next : nodes_in (kids_of top) ≡ node_count k.1 + nodes_in (kids_of (gone_on top)) = ap nodes_in (kids_next top k at) in
      omega (arith, opened, nodes, on, next)

  pub child_stands : top.done < length (children_of (entered_tree top.inside)) → StandsOn way (top ∷ reverse before) → StandsOn long (reverse now)
  child_stands more stands =
      let rest : StandsOn (take top.length long) (reverse before) = subst (λ p. StandsOn p (reverse before)) (sym cut) stands.2 in
      let reach = size in
      let longer = longer_size (take top.length way) long (Some k.0) (prefix_of k.1) whole in
      opened_stands (before ++ gone_on top ∷ []) now k.1 long o
      (subst (StandsOn long) (sym (on_top before (gone_on top))) (omega (arith, reach, longer), omega (arith, more), rest))

-- ---- the end of a walk

pub walk_ended : (w : Walk) → w.at ≡ None → w.stack.items ≡ [] → own_of (path_of w.trail) w.at ++ rest_of w ≡ []
walk_ended w none empty =
    ap (λ (g : Option Inside × List OpenVisit). own_of (path_of w.trail) g.0 ++ to_come w.trail.segments.items (reverse g.1)) (λ i. (none i, empty i))
