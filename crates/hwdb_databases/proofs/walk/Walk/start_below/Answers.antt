use Rattle.std.proofs.Common.{refl, ◌≡◌, ◌∙◌, ap, sym, ◌++◌, ◌+◌, ◌∷◌, ◌≤◌, [], max, reverse, length, arith, subst, append-nil, List, Some, ℕ}
use Rattle.hwdb_spec.specs.Tree.{prefix_of, values_of}
use Rattle.hwdb_reader.specs.Views.{children_of, tree_of}
use Rattle.hwdb_query.specs.Internal.Members.{own_members, members_in}
use Rattle.hwdb_query.specs.Lemmas.Parts.{members_split, node_and_below}
use Rattle.hwdb_databases.specs.Internal.Trails.{path_in, path_of}
use Rattle.hwdb_databases.specs.declared.trail.Segment.{Segment}
use Rattle.hwdb_databases.specs.Internal.Walks.{to_come, own_of, Opened}
use Rattle.hwdb_databases.specs.declared.walk.OpenVisit.{OpenVisit}
use Rattle.hwdb_databases.proofs.DepthLemmas.{opened_deepest, depth_and_below}
use Rattle.hwdb_databases.proofs.TrailLemmas.{longer_path}
use Rattle.hwdb_databases.proofs.WalkLemmas.{own_entered, not_none, opened_size, opened_comes, opened_stands, opened_left}
use Rattle.hwdb_databases.proofs.walk.Walk.start_below.Goals as goal

opened : (c : goal.In_ok-enter) → Opened [] c.enter.new.self.stack.items (tree_of c.args.node) (length c.enter.new.self.trail.segments.items)
opened c = subst (λ b. Opened b c.enter.new.self.stack.items (tree_of c.args.node) (length c.enter.new.self.trail.segments.items)) c.new-walk.ensures.stack c.in_ok-enter.ensures.stack

path_is : (c : goal.In_ok-enter) → path_of c.enter.new.self.trail ≡ c.args.byte ∷ prefix_of (tree_of c.args.node)
path_is c =
    longer_path c.new-walk.result.trail.segments.items c.enter.new.self.trail.segments.items (Some c.args.byte) (prefix_of (tree_of c.args.node)) c.in_ok-enter.ensures.longer
    ∙ ap (λ (l : List Segment). path_in l ++ c.args.byte ∷ prefix_of (tree_of c.args.node)) c.new-walk.ensures.segments

pub returns-clause-walk : goal.returns-clause-walk
returns-clause-walk c =
    let tree = tree_of c.args.node in
    let path = c.enter.new.self.trail.segments.items in
    let left_now = opened_left [] c.enter.new.self.stack.items tree (length path) (opened c) in
    let nodes = node_and_below tree in
    let counted = c.in_ok-enter.ensures.counted in
    let start = c.new-walk.ensures.entered in
    let deepest : c.enter.new.self.deepest ≡ max 0 1 =
    c.in_ok-enter.ensures.deepest ∙ ap (λ (g : ℕ × List OpenVisit). max g.0 (length g.1 + 1)) (λ i. (c.new-walk.ensures.deepest i, c.new-walk.ensures.stack i)) in
    let opened_deep = opened_deepest [] c.enter.new.self.stack.items tree (length path) (opened c) in
    let below = depth_and_below tree in
    let one : length c.enter.new.self.stack.items ≤ 1 = opened_size [] c.enter.new.self.stack.items tree (length path) (opened c) in
    record {
      stands = opened_stands [] c.enter.new.self.stack.items tree path (opened c) tt;
      small = c.law_tree.ensures.nodes;
      counted = omega (arith, left_now, nodes, counted, start);
      deepest = omega (arith, deepest, opened_deep, below);
      reached = omega (arith, deepest, one);
    }

pub returns-clause-all : goal.returns-clause-all
returns-clause-all c =
    let tree = tree_of c.args.node in
    let path = path_of c.enter.new.self.trail in
    let way = c.enter.new.self.trail.segments.items in
    let all = c.args.byte ∷ prefix_of tree in
    let own : own_of path c.enter.new.self.at ≡ own_members all (values_of tree) =
    own_entered path c.enter.new.self.at tree c.in_ok-enter.ensures.at ∙ ap (λ p. own_members p (values_of tree)) (path_is c) in
    let kids : to_come way (reverse c.enter.new.self.stack.items) ≡ members_in all (children_of tree) =
    opened_comes [] c.enter.new.self.stack.items tree way (opened c) ∙ append-nil (members_in path (children_of tree)) ∙ ap (λ p. members_in p (children_of tree)) (path_is c) in
    ap (λ (g : List _ × List _). g.0 ++ g.1) (λ i. (own i, kids i)) ∙ sym (members_split (c.args.byte ∷ []) tree)

pub returns-clause-end : goal.returns-clause-end
returns-clause-end c = not_none c.enter.new.self.at _ _ c.in_ok-enter.ensures.at

pub returns-clause-copied : goal.returns-clause-copied
returns-clause-copied c = c.in_ok-enter.ensures.follows.copied (c.new-walk.ensures.copied refl)
