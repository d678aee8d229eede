-- How many nodes of a tree assign something: as many as there are different patterns, since no two nodes have one path.
use Rattle.std.proofs.Common.{◌≡◌, ◌∙◌, ap, sym, refl, subst, ℕ, suc, ◌+◌, ◌<◌, ◌≤◌, List, [], ◌∷◌, ◌++◌, map, length, reverse, arith, append_assoc, Bool, true, false, Option, Some, None, IsSomeAnd, slice_get, inl, inr}
use Rattle.std.specs.Prelude.{flat_map, if◌then◌else◌}
use Rattle.std.specs.List.{AllByRecursion}
use Rattle.std.proofs.lemmas.List.{map-append}
use Rattle.std.proofs.lemmas.Grind.{flat_map-append}
use Rattle.hwdb_spec.specs.Assignment.{Assignment}
use Rattle.hwdb_spec.specs.Tree.{Tree, Children, Value, IsTree, BytesAscend, assigned_at, key_of, members_under, values_below, values_of, values_under}
use Rattle.hwdb_spec.specs.Tree.Tree.{Node}
use Rattle.hwdb_spec.specs.Tree.Children.{NoMore, Child}
use Rattle.hwdb_spec.specs.Folders.{same}
use Rattle.hwdb_spec.specs.Lemmas.Lists.{same_byte}
use Rattle.hwdb_spec.specs.Lemmas.Orders.{same_text}
use Rattle.hwdb_spec_commands.specs.Summary.{different}
use Rattle.hwdb_reader.specs.Views.{children_of, entered_tree, list_of, shown}
use Rattle.hwdb_reader.specs.declared.view.Inside.{Inside}
use Rattle.hwdb_query.specs.Internal.Members.{assignment_shown, one_assignment, own_members}
use Rattle.hwdb_query.specs.Lemmas.Parts.{own_listed}
use Rattle.hwdb_query.specs.Lemmas.Paths.{Above, From, below_above, under_from}
use Rattle.hwdb_query.specs.Lemmas.Stacks.{on_top}
use Rattle.hwdb_databases.specs.Internal.Counting.{one_more, turns}
use Rattle.hwdb_databases.specs.Internal.Walks.{Opened, kids_of, named, named_at, named_below, named_here, named_in, named_left, some_of}
use Rattle.hwdb_databases.specs.declared.walk.OpenVisit.{OpenVisit}
use Rattle.hwdb_databases.proofs.TallyLemmas.{different_turns, pattern_of, turns_none, turns_own}
use Rattle.hwdb_databases.proofs.WalkLemmas.{gone_on, kids_next, top_is, top_kids}

-- ---- one node

-- what a node assigns is as much at any path
own_size : (p q : List ℕ) (values : List Value) → length (own_members p values) ≡ length (own_members q values)
unfolding assignment_shown
own_size p q [] = refl
own_size p q (v ∷ values) = go (shown v).key (own_size p q values)
  where
    go : (o : Option (List ℕ)) → length (own_members p values) ≡ length (own_members q values)
        → length (one_assignment p (shown v) o ++ own_members p values) ≡ length (one_assignment q (shown v) o ++ own_members q values)
    go None is = is
    go (Some key) is = omega (arith, is)

some_sized : (own : List Assignment) → 0 < length own → some_of own ≡ 1
some_sized [] h = absurd (omega (arith, h))
some_sized (f ∷ own) h = refl

none_sized : (own : List Assignment) → length own ≤ 0 → some_of own ≡ 0
none_sized [] h = refl
none_sized (f ∷ own) h = absurd (omega (arith, h))

pub named_some : (p : List ℕ) (values : List Value) → 0 < length (own_members p values) → named_here values ≡ 1
unfolding named_here
named_some p values h = let size = own_size p [] values in some_sized (own_members [] values) (omega (arith, size, h))

pub named_none : (p : List ℕ) (values : List Value) → length (own_members p values) ≤ 0 → named_here values ≡ 0
unfolding named_here
named_none p values h = let size = own_size p [] values in none_sized (own_members [] values) (omega (arith, size, h))

-- ---- the stack of a walk

named_listed : (ks : Children) → named_below ks ≡ named_in (list_of ks)
unfolding named list_of
named_listed NoMore = refl
named_listed (Child byte tree more) = ap (λ n. named tree + n) (named_listed more)

pub named_and_below : (t : Tree) → named t ≡ named_here (values_of t) + named_in (children_of t)
unfolding named children_of values_of
named_and_below (Node prefix values children) = ap (λ n. named_here values + n) (named_listed children)

pub named_entered : (at : Option Inside) (t : Tree) → IsSomeAnd at (λ i. entered_tree i ≡ t) → named_at at ≡ named_here (values_of t)
named_entered None t h = absurd h
named_entered (Some i) t h = ap (λ u. named_here (values_of u)) h

pub opened_named : (before now : List OpenVisit) (t : Tree) (size : ℕ) → Opened before now t size → named_left (reverse now) ≡ named_in (children_of t) + named_left (reverse before)
opened_named before now t size (inl o) = ap named_left (top_is before now t size o) ∙ ap (λ ks. named_in ks + named_left (reverse before)) (top_kids before now t size o)
opened_named before now t size (inr h) =
    let same : named_left (reverse now) ≡ named_left (reverse before) = ap (λ (l : List OpenVisit). named_left (reverse l)) h.0 in
    let none : named_in (children_of t) ≡ 0 = ap named_in h.1 in
    omega (arith, same, none)

-- a node with a child that isn't done
pub child_named : (size : ℕ) (top : OpenVisit) (before now : List OpenVisit) (k : ℕ × Tree) → slice_get (children_of (entered_tree top.inside)) top.done ≡ Some k
    → Opened (before ++ gone_on top ∷ []) now k.1 size → named_here (values_of k.1) + named_left (reverse now) ≡ named_left (top ∷ reverse before)
child_named size top before now k at o =
    let opened = opened_named (before ++ gone_on top ∷ []) now k.1 size o in
    let on : named_left (reverse (before ++ gone_on top ∷ [])) ≡ named_in (kids_of (gone_on top)) + named_left (reverse before) = ap named_left (on_top before (gone_on top)) in
    let next : named_in (kids_of top) ≡ named k.1 + named_in (kids_of (gone_on top)) = ap named_in (kids_next top k at) in
    let all = named_and_below k.1 in
    omega (arith, opened, on, next, all)

-- ---- patterns of different nodes

-- a text that isn't among some, if there is one
abbrev Fresh : Option (List ℕ) → List (List ℕ) → Type 0
Fresh None ps = Unit {0}
Fresh (Some last) ps = AllByRecursion (λ (p : List ℕ). last ≡ p → ⊥) ps

fresh_front : (last : Option (List ℕ)) (ps qs : List (List ℕ)) → Fresh last (ps ++ qs) → Fresh last ps
fresh_front None ps qs h = tt
fresh_front (Some last) [] qs h = tt
fresh_front (Some last) (p ∷ ps) qs h = (h.0, fresh_front (Some last) ps qs h.1)

fresh_end : (last : Option (List ℕ)) (ps qs : List (List ℕ)) → Fresh last (ps ++ qs) → Fresh last qs
fresh_end None ps qs h = tt
fresh_end (Some last) [] qs h = h
fresh_end (Some last) (p ∷ ps) qs h = fresh_end (Some last) ps qs h.1

-- the last of some texts, or the one before them
abbrev last_in : Option (List ℕ) → List (List ℕ) → Option (List ℕ)
last_in last [] = last
last_in last (p ∷ ps) = last_in (Some p) ps

turns_append : (last : Option (List ℕ)) (ps qs : List (List ℕ)) → turns last (ps ++ qs) ≡ turns last ps + turns (last_in last ps) qs
turns_append last [] qs = omega arith
turns_append last (p ∷ ps) qs = let more = turns_append (Some p) ps qs in omega (arith, more)

-- none of some texts is one of others
abbrev AreFar : List (List ℕ) → List (List ℕ) → Type 0
AreFar ps qs = AllByRecursion (λ (p : List ℕ). Fresh (Some p) qs) ps

fresh_after : (last : Option (List ℕ)) (ps qs : List (List ℕ)) → Fresh last qs → AreFar ps qs → Fresh (last_in last ps) qs
fresh_after last [] qs fresh far = fresh
fresh_after last (p ∷ ps) qs fresh far = fresh_after (Some p) ps qs far.0 far.1

not_same : (last pattern : List ℕ) → (last ≡ pattern → ⊥) → one_more (Some last) pattern ≡ 1
not_same last pattern far = go (same pattern last) refl
  where
    go : (b : Bool) → same pattern last ≡ b → one_more (Some last) pattern ≡ 1
    go true is = absurd (far (sym (same_text pattern last is)))
    go false is = ap (λ c. if c then 0 else 1) is

fresh_turn : (last : Option (List ℕ)) (p : List ℕ) (ps : List (List ℕ)) → Fresh last (p ∷ ps) → one_more last p ≡ 1
fresh_turn None p ps h = refl
fresh_turn (Some last) p ps h = not_same last p h.0

-- ---- the patterns of what is below a path

abbrev patterns_of : List (List ℕ × Value) → List (List ℕ)
patterns_of ps = map pattern_of (flat_map (λ (p : List ℕ × Value). assigned_at p.0 p.1 (key_of p.1.key)) ps)

-- what holds of each path holds of each pattern
all_patterns : (Q : List ℕ → Type 0) (ps : List (List ℕ × Value)) → AllByRecursion (λ (p : List ℕ × Value). Q p.0) ps → AllByRecursion Q (patterns_of ps)
all_patterns Q [] h = tt
all_patterns Q (p ∷ ps) h = go (key_of p.1.key) (all_patterns Q ps h.1)
  where
    go : (o : Option (List ℕ)) → AllByRecursion Q (patterns_of ps)
        → AllByRecursion Q (map pattern_of (assigned_at p.0 p.1 o ++ flat_map (λ (p : List ℕ × Value). assigned_at p.0 p.1 (key_of p.1.key)) ps))
    go None more = more
    go (Some key) more = (h.0, more)

all_texts : (P Q : List ℕ → Type 0) → ((p : List ℕ) → P p → Q p) → (ps : List (List ℕ)) → AllByRecursion P ps → AllByRecursion Q ps
all_texts P Q f [] h = tt
all_texts P Q f (p ∷ ps) h = (f p h.0, all_texts P Q f ps h.1)

longer : (path rest : List ℕ) (byte : ℕ) → path ≡ path ++ byte ∷ rest → ⊥
longer [] rest byte e = cc
longer (b ∷ path) rest byte e = let f : path ≡ path ++ byte ∷ rest = cc in longer path rest byte f

-- a path isn't one of those that go on from it
fresh_below : (path : List ℕ) (ps : List (List ℕ)) → AllByRecursion (λ (p : List ℕ). Above path 0 p) ps → Fresh (Some path) ps
fresh_below path ps h = all_texts (λ (p : List ℕ). Above path 0 p) (λ (p : List ℕ). path ≡ p → ⊥) (λ p a e. longer path a.rest a.byte (e ∙ a.is)) ps h

-- paths that go on by one byte aren't those that go on by a greater one
far_kids : (path : List ℕ) (byte : ℕ) (ps qs : List (List ℕ)) → AllByRecursion (λ (p : List ℕ). From (path ++ byte ∷ []) p) ps → AllByRecursion (λ (q : List ℕ). Above path byte q) qs → AreFar ps qs
far_kids path byte [] qs a b = tt
far_kids path byte (p ∷ ps) qs a b =
    let f = a.0 in
    let begins : p ≡ path ++ byte ∷ f.rest = f.is ∙ append_assoc path (byte ∷ []) f.rest in (
      all_texts (λ (q : List ℕ). Above path byte q) (λ (q : List ℕ). p ≡ q → ⊥)
          (λ q c e. let same : byte ≡ c.byte = same_byte path f.rest c.rest byte c.byte (sym begins ∙ e ∙ c.is) in let above = c.above in omega arith) qs b,
      far_kids path byte ps qs a.1 b,
    )

patterns_append : (ps qs : List (List ℕ × Value)) → patterns_of (ps ++ qs) ≡ patterns_of ps ++ patterns_of qs
patterns_append ps qs =
    ap (map pattern_of) (flat_map-append (λ (p : List ℕ × Value). assigned_at p.0 p.1 (key_of p.1.key)) ps qs) ∙ map-append pattern_of _ _

patterns_own : (path : List ℕ) (values : List Value) → patterns_of (map (λ v. (path, v)) values) ≡ map pattern_of (own_members path values)
patterns_own path values = ap (map pattern_of) (own_listed path values)

-- the pattern of the first of some assignments
abbrev first_in : List Assignment → List ℕ
first_in [] = []
first_in (f ∷ own) = pattern_of f

-- the first pattern of a node is its path
first_pattern : (path : List ℕ) (values : List Value) (f : Assignment) (own : List Assignment) → own_members path values ≡ f ∷ own → pattern_of f ≡ path
unfolding assignment_shown
first_pattern path [] f own is = absurd (cc)
first_pattern path (v ∷ values) f own is = go (shown v).key (λ e. first_pattern path values f own e) is
  where
    go : (o : Option (List ℕ)) → (own_members path values ≡ f ∷ own → pattern_of f ≡ path) → one_assignment path (shown v) o ++ own_members path values ≡ f ∷ own → pattern_of f ≡ path
    go None more e = more e
    go (Some key) more e = sym (ap first_in e)

-- a node's own patterns, and those below it
own_turns : (last : Option (List ℕ)) (path : List ℕ) (values : List Value) (rest : List (List ℕ)) (n : ℕ) → Fresh last (map pattern_of (own_members path values) ++ rest)
    → ((before : Option (List ℕ)) → Fresh before rest → turns before rest ≡ n) → Fresh (Some path) rest
    → turns last (map pattern_of (own_members path values) ++ rest) ≡ named_here values + n
own_turns last path values rest n fresh below apart = go (own_members path values) refl
  where
    go : (own : List Assignment) → own_members path values ≡ own → turns last (map pattern_of (own_members path values) ++ rest) ≡ named_here values + n
    go [] is =
        let none : named_here values ≡ 0 = named_none path values (let size : length (own_members path values) ≡ 0 = ap length is in omega (arith, size)) in
        let few : length (own_members path values) ≤ 0 = (let size : length (own_members path values) ≡ 0 = ap length is in omega (arith, size)) in
        let turned = turns_none last (own_members path values) rest few in
        let more = below last (fresh_end last (map pattern_of (own_members path values)) rest fresh) in
        omega (arith, none, turned, more)
    go (f ∷ own) is =
        let many : 0 < length (own_members path values) = (let size : length (own_members path values) ≡ suc (length own) = ap length is in omega (arith, size)) in
        let one = named_some path values many in
        let turned = turns_own last path values rest many in
        let own_is : pattern_of f ≡ path = first_pattern path values f own is in
        let first = fresh_turn last (pattern_of f) (map pattern_of own ++ rest) (subst (λ l. Fresh last (map pattern_of l ++ rest)) is fresh) in
        let turn : one_more last path ≡ 1 = sym (ap (one_more last) own_is) ∙ first in
        let more = below (Some path) apart in
        omega (arith, one, turned, turn, more)

mutual
  unfolding values_under IsTree named

  tree_turns : (path : List ℕ) (t : Tree) → IsTree t → (last : Option (List ℕ)) → Fresh last (patterns_of (values_under path t)) → turns last (patterns_of (values_under path t)) ≡ named t
  tree_turns path (Node prefix values children) h last fresh =
      let here = path ++ prefix in
      let rest = patterns_of (values_below here children) in
      let split : patterns_of (map (λ v. (here, v)) values ++ values_below here children) ≡ map pattern_of (own_members here values) ++ rest =
      patterns_append (map (λ v. (here, v)) values) (values_below here children) ∙ ap (λ l. l ++ rest) (patterns_own here values) in
      ap (turns last) split
      ∙ own_turns last here values rest (named_below children) (subst (Fresh last) split fresh)
      (λ before apart. kids_turns here 0 children h.1 before apart)
      (fresh_below here rest (all_patterns (λ (p : List ℕ). Above here 0 p) (values_below here children) (below_above here 0 children h.1)))

  kids_turns : (path : List ℕ) (low : ℕ) (ks : Children) → BytesAscend low ks → (last : Option (List ℕ)) → Fresh last (patterns_of (values_below path ks)) → turns last (patterns_of (values_below path ks)) ≡ named_below ks
  kids_turns path low NoMore h last fresh = refl
  kids_turns path low (Child byte t more) h last fresh =
      let here = patterns_of (values_under (path ++ byte ∷ []) t) in
      let rest = patterns_of (values_below path more) in
      let split = patterns_append (values_under (path ++ byte ∷ []) t) (values_below path more) in
      let parted : Fresh last (here ++ rest) = subst (Fresh last) split fresh in
      let far = far_kids path byte here rest (all_patterns (λ (p : List ℕ). From (path ++ byte ∷ []) p) _ (under_from (path ++ byte ∷ []) t h.1)) (all_patterns (λ (p : List ℕ). Above path byte p) _ (below_above path byte more h.2)) in
      let both = turns_append last here rest in
      let one = tree_turns (path ++ byte ∷ []) t h.1 last (fresh_front last here rest parted) in
      let others = kids_turns path byte more h.2 (last_in last here) (fresh_after last here rest (fresh_end last here rest parted) far) in
      let all : turns last (here ++ rest) ≡ named t + named_below more = omega (arith, both, one, others) in
      ap (turns last) split ∙ all

pub different_named : (t : Tree) → IsTree t → different (map pattern_of (members_under [] t)) ≡ named t
different_named t h = sym (different_turns t h) ∙ tree_turns [] t h None tt
