-- How many nodes a walk meets, and how many of them are on one path.
use Rattle.std.proofs.Common.{◌≡◌, ◌∙◌, ap, refl, ℕ, suc, ◌+◌, List, [], ◌∷◌, ◌++◌, reverse, length, arith, max, Some, slice_get, length-append, inl, inr}
use Rattle.std.proofs.lemmas.List.{length-reverse}
use Rattle.hwdb_spec_commands.specs.Summary.{nodes, nodes_of, depth, depth_of}
use Rattle.hwdb_spec.specs.Tree.{Tree, Children}
use Rattle.hwdb_spec.specs.Tree.Tree.{Node}
use Rattle.hwdb_spec.specs.Tree.Children.{NoMore, Child}
use Rattle.hwdb_reader.specs.Views.{children_of, list_of, node_count, nodes_below, entered_tree}
use Rattle.hwdb_databases.specs.Internal.Walks.{kids_of, depth_in, deepest_to_come, Opened}
use Rattle.hwdb_databases.specs.declared.walk.OpenVisit.{OpenVisit}
use Rattle.hwdb_databases.proofs.WalkLemmas.{gone_on, top_is, top_kids, kids_next}
use Rattle.hwdb_query.specs.Lemmas.Stacks.{on_top}

mutual
  unfolding nodes node_count

  pub nodes_same : (t : Tree) → node_count t ≡ nodes t
  nodes_same (Node prefix values children) = ap (λ n. 1 + n) (nodes_of_same children)

  nodes_of_same : (ks : Children) → nodes_below ks ≡ nodes_of ks
  nodes_of_same NoMore = refl
  nodes_of_same (Child byte tree more) = ap (λ n. n + nodes_below more) (nodes_same tree) ∙ ap (λ n. nodes tree + n) (nodes_of_same more)

depth_listed : (ks : Children) → depth_of ks ≡ depth_in (list_of ks)
unfolding depth list_of
depth_listed NoMore = refl
depth_listed (Child byte tree more) = ap (λ n. max (depth tree) n) (depth_listed more)

pub depth_and_below : (t : Tree) → depth t ≡ 1 + depth_in (children_of t)
unfolding depth children_of
depth_and_below (Node prefix values children) = ap (λ n. 1 + n) (depth_listed children)

pub opened_deepest : (before now : List OpenVisit) (t : Tree) (size : ℕ) → Opened before now t size
    → max (suc (length (reverse before))) (deepest_to_come (reverse now)) ≡ max (suc (length (reverse before)) + depth_in (children_of t)) (deepest_to_come (reverse before))
opened_deepest before now t size (inl o) =
    let top : deepest_to_come (reverse now) ≡ max (suc (length (reverse before)) + depth_in (children_of t)) (deepest_to_come (reverse before)) =
    ap deepest_to_come (top_is before now t size o)
    ∙ ap (λ ks. max (suc (length (reverse before)) + depth_in ks) (deepest_to_come (reverse before))) (top_kids before now t size o) in
    omega (arith, top)
opened_deepest before now t size (inr h) =
    let same : deepest_to_come (reverse now) ≡ deepest_to_come (reverse before) = ap (λ (l : List OpenVisit). deepest_to_come (reverse l)) h.0 in
    let none : depth_in (children_of t) ≡ 0 = ap depth_in h.1 in
    omega (arith, same, none)

-- a node with a child that isn't done
pub child_deepest : (deepest size : ℕ) (top : OpenVisit) (before now : List OpenVisit) (k : ℕ × Tree) → slice_get (children_of (entered_tree top.inside)) top.done ≡ Some k
    → Opened (before ++ gone_on top ∷ []) now k.1 size
    → max (max deepest (length (before ++ gone_on top ∷ []) + 1)) (deepest_to_come (reverse now)) ≡ max deepest (deepest_to_come (top ∷ reverse before))
child_deepest deepest size top before now k at o =
    let opened = opened_deepest (before ++ gone_on top ∷ []) now k.1 size o in
    let on : deepest_to_come (reverse (before ++ gone_on top ∷ [])) ≡ max (suc (length (reverse before)) + depth_in (kids_of (gone_on top))) (deepest_to_come (reverse before)) =
    ap deepest_to_come (on_top before (gone_on top)) in
    let height : length (reverse (before ++ gone_on top ∷ [])) ≡ suc (length (reverse before)) = ap length (on_top before (gone_on top)) in
    let long : length (before ++ gone_on top ∷ []) ≡ length before + 1 = length-append before (gone_on top ∷ []) in
    let turned : length (reverse before) ≡ length before = length-reverse before in
    let next : depth_in (kids_of top) ≡ max (depth k.1) (depth_in (kids_of (gone_on top))) = ap depth_in (kids_next top k at) in
    let deep = depth_and_below k.1 in
    omega (arith, opened, on, height, long, turned, next, deep)
