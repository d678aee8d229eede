use Rattle.std.proofs.Common.{All, ◌≡◌, ◌∙◌, ◌<◌, ◌-◌, ap, subst, sym, ◌++◌, ◌∷◌, ◌+◌, [], ℕ, suc, List, max, reverse, take, length, arith, Some}
use Rattle.hwdb_spec.specs.Tree.{Tree, prefix_of}
use Rattle.hwdb_reader.specs.Views.{tree_of, children_of, entered_tree}
use Rattle.hwdb_databases.specs.Internal.Trails.{IsLonger, IsSegmentIn, path_in}
use Rattle.hwdb_databases.proofs.TrailLemmas.{follows_on}
use Rattle.hwdb_databases.specs.Internal.Walks.{IsAtOne, IsOpenIn, StandsOn, to_come, left, steps, deepest_to_come, Opened}
use Rattle.hwdb_databases.specs.declared.walk.OpenVisit.{OpenVisit}
use Rattle.hwdb_databases.proofs.PartLemmas.{kid_within}
use Rattle.hwdb_databases.proofs.DepthLemmas.{child_deepest}
use Rattle.hwdb_databases.proofs.WalkLemmas.{gone_on, own_entered, one_entered, opened_size, some_left, child_comes, child_counted, child_steps, child_stands, top_of, set_is}
use Rattle.std.proofs.lemmas.List.Elements.{All-get_or, All-push, All-take}
use Rattle.hwdb_reader.specs.Unread.{file_in}
use Rattle.hwdb_databases.specs.Internal.Walks.{named_left}
use Rattle.hwdb_databases.proofs.NamedLemmas.{child_named, named_entered}
use Rattle.hwdb_databases.proofs.walk.Walk.go_on.Goals as goal

abbrev top : (c : goal.In_ok-enter) → OpenVisit
top c = c.index_mut-open.result.now

abbrev below : (c : goal.In_ok-enter) → List OpenVisit
below c = take (c.len-last.result - 1) c.args.self.now.stack.items

at_last : (c : goal.In_ok-enter) → suc (c.len-last.result - 1) ≡ length c.args.self.now.stack.items
at_last c =
    let size = c.len-last.ensures in
    let ok = c.args.self.now.stack.ok in
    let some = c.requires.some in
    omega (arith, size, ok, some)

on : (c : goal.In_ok-enter) → reverse c.args.self.now.stack.items ≡ top c ∷ reverse (below c)
on c = top_of c.args.self.now.stack.items (c.len-last.result - 1) (top c) (at_last c) c.index_mut-open.ensures.value

stands : (c : goal.In_ok-enter) → StandsOn c.args.self.now.trail.segments.items (top c ∷ reverse (below c))
stands c = subst (StandsOn c.args.self.now.trail.segments.items) (on c) c.requires.stands

whole : (c : goal.In_ok-enter) → IsLonger (take (top c).length c.args.self.now.trail.segments.items) c.enter.new.self.trail.segments.items (Some c.child_in_file-child.result.byte) (prefix_of (tree_of c.child_in_file-child.result.node))
whole c =
    subst (λ b. IsLonger b c.enter.new.self.trail.segments.items (Some c.child_in_file-child.result.byte) (prefix_of (tree_of c.child_in_file-child.result.node))) c.cut.ensures.segments c.in_ok-enter.ensures.longer

opened : (c : goal.In_ok-enter) → Opened (below c ++ gone_on (top c) ∷ []) c.enter.new.self.stack.items (tree_of c.child_in_file-child.result.node) (length c.enter.new.self.trail.segments.items)
opened c =
    subst (λ b. Opened b c.enter.new.self.stack.items (tree_of c.child_in_file-child.result.node) (length c.enter.new.self.trail.segments.items))
    (set_is c.args.self.now.stack.items (c.len-last.result - 1) (gone_on (top c)) (at_last c)) c.in_ok-enter.ensures.stack

pub enter-requires : goal.enter-requires
enter-requires c =
    let k : ℕ × Tree = (c.child_in_file-child.result.byte, tree_of c.child_in_file-child.result.node) in
    let size = c.len-last.ensures in
    let ok = c.args.self.now.stack.ok in
    let last = c.requires.some in
    let i = c.len-last.result - 1 in
    let top = c.index_mut-open.result.now in
    let stands = top_of c.args.self.now.stack.items i top (omega (arith, size, ok, last)) c.index_mut-open.ensures.value in
    let some = some_left top (reverse (take i c.args.self.now.stack.items)) k c.child_in_file-child.ensures.child in
    let same = ap left stands in
    let room = c.requires.room in
    omega (arith, some, same, room)

pub returns-clause-rest : goal.returns-clause-rest
returns-clause-rest c =
    let k : ℕ × Tree = (c.child_in_file-child.result.byte, tree_of c.child_in_file-child.result.node) in
    let path = c.args.self.now.trail.segments.items in
    let long = c.enter.new.self.trail.segments.items in
    let now = c.enter.new.self.stack.items in
    ap (λ r. r ++ to_come long (reverse now)) (own_entered (path_in long) c.enter.new.self.at k.1 c.in_ok-enter.ensures.at)
    ∙ child_comes path long (top c) (below c) now k c.child_in_file-child.ensures.child (stands c).0 (whole c) (opened c)
    ∙ ap (to_come path) (sym (on c))

pub returns-clause-stands : goal.returns-clause-stands
returns-clause-stands c =
    let k : ℕ × Tree = (c.child_in_file-child.result.byte, tree_of c.child_in_file-child.result.node) in
    child_stands c.args.self.now.trail.segments.items c.enter.new.self.trail.segments.items (top c) (below c) c.enter.new.self.stack.items k c.child_in_file-child.ensures.child (stands c).0 (whole c) (opened c)
    (kid_within (children_of (entered_tree (top c).inside)) (top c).done k c.child_in_file-child.ensures.child) (stands c)

pub returns-clause-counted : goal.returns-clause-counted
returns-clause-counted c =
    let one = one_entered c.enter.new.self.at (tree_of c.child_in_file-child.result.node) c.in_ok-enter.ensures.at in
    let counted = c.in_ok-enter.ensures.counted in
    omega (arith, one, counted)

pub returns-clause-left : goal.returns-clause-left
returns-clause-left c =
    let k : ℕ × Tree = (c.child_in_file-child.result.byte, tree_of c.child_in_file-child.result.node) in
    let left_now : _ = child_counted c.args.self.now.trail.segments.items c.enter.new.self.trail.segments.items (top c) (below c) c.enter.new.self.stack.items k c.child_in_file-child.ensures.child (stands c).0 (whole c) (opened c) in
    let one = one_entered c.enter.new.self.at k.1 c.in_ok-enter.ensures.at in
    let same = ap left (on c) in
    omega (arith, left_now, one, same)

pub returns-clause-named : goal.returns-clause-named
returns-clause-named c =
    let k : ℕ × Tree = (c.child_in_file-child.result.byte, tree_of c.child_in_file-child.result.node) in
    let left_now = child_named (length c.enter.new.self.trail.segments.items) (top c) (below c) c.enter.new.self.stack.items k c.child_in_file-child.ensures.child (opened c) in
    let at = named_entered c.enter.new.self.at k.1 c.in_ok-enter.ensures.at in
    let same = ap named_left (on c) in
    omega (arith, left_now, at, same)

pub returns-clause-fewer : goal.returns-clause-fewer
returns-clause-fewer c =
    let k : ℕ × Tree = (c.child_in_file-child.result.byte, tree_of c.child_in_file-child.result.node) in
    subst (λ s. steps (reverse c.enter.new.self.stack.items) < steps s) (sym (on c))
    (child_steps c.args.self.now.trail.segments.items c.enter.new.self.trail.segments.items (top c) (below c) c.enter.new.self.stack.items k c.child_in_file-child.ensures.child (stands c).0 (whole c) (opened c))

pub returns-clause-deepest : goal.returns-clause-deepest
returns-clause-deepest c =
    let k : ℕ × Tree = (c.child_in_file-child.result.byte, tree_of c.child_in_file-child.result.node) in
    let grown = c.in_ok-enter.ensures.deepest in
    let set = set_is c.args.self.now.stack.items (c.len-last.result - 1) (gone_on (top c)) (at_last c) in
    ap (λ d. max d (deepest_to_come (reverse c.enter.new.self.stack.items))) (grown ∙ ap (λ (b : List OpenVisit). max c.args.self.now.deepest (length b + 1)) set)
    ∙ child_deepest c.args.self.now.deepest (length c.enter.new.self.trail.segments.items) (top c) (below c) c.enter.new.self.stack.items k c.child_in_file-child.ensures.child (opened c)
    ∙ ap (λ s. max c.args.self.now.deepest (deepest_to_come s)) (sym (on c))

pub returns-clause-reached : goal.returns-clause-reached
returns-clause-reached c =
    let k : ℕ × Tree = (c.child_in_file-child.result.byte, tree_of c.child_in_file-child.result.node) in
    let size = opened_size (below c ++ gone_on (top c) ∷ []) c.enter.new.self.stack.items k.1 (length c.enter.new.self.trail.segments.items) (opened c) in
    let set = ap length (set_is c.args.self.now.stack.items (c.len-last.result - 1) (gone_on (top c)) (at_last c)) in
    let grown = c.in_ok-enter.ensures.deepest in
    omega (arith, size, set, grown)

top_file : (c : goal.In_ok-enter) (f : List ℕ) → All (IsOpenIn f) c.args.self.now.stack.items → file_in (top c).inside ≡ f
top_file c f all =
    let last = at_last c in
    subst (IsOpenIn f) (sym c.index_mut-open.ensures.value)
    (All-get_or (IsOpenIn f) c.args.self.now.stack.items (c.len-last.result - 1) (top c) (omega (arith, last)) all)

pub returns-clause-file : goal.returns-clause-file
returns-clause-file c f all = subst (λ g. IsAtOne g c.enter.new.self.at) (c.child_in_file-child.ensures.file ∙ top_file c f all) c.in_ok-enter.ensures.file

pub returns-clause-files : goal.returns-clause-files
returns-clause-files c f all =
    c.in_ok-enter.ensures.files f (c.child_in_file-child.ensures.file ∙ top_file c f all)
    (subst (All (IsOpenIn f)) (sym (set_is c.args.self.now.stack.items (c.len-last.result - 1) (gone_on (top c)) (at_last c)))
    (All-push (IsOpenIn f) (below c) (gone_on (top c)) (All-take (IsOpenIn f) (c.len-last.result - 1) c.args.self.now.stack.items all) (top_file c f all)))

pub returns-clause-follows : goal.returns-clause-follows
returns-clause-follows c = follows_on c.args.self.now.trail c.cut.new.self c.enter.new.self.trail c.cut.ensures.follows c.in_ok-enter.ensures.follows

pub returns-clause-segments : goal.returns-clause-segments
returns-clause-segments c f all held =
    c.in_ok-enter.ensures.segments f (c.child_in_file-child.ensures.file ∙ top_file c f all)
    (subst (All (IsSegmentIn f)) (sym c.cut.ensures.segments) (All-take (IsSegmentIn f) (top c).length c.args.self.now.trail.segments.items held))
