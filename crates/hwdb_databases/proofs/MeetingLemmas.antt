-- Two databases that are walked side by side.
use Rattle.std.proofs.Common.{◌≡◌, ◌∙◌, ap, sym, refl, subst, ℕ, suc, ◌+◌, ◌≤◌, List, [], ◌∷◌, ◌++◌, drop, reverse, Option, None, Some, Bool, true, false, is_some, ◌==◌, append_assoc, add-one, option_map, slice_get, IfNone, arith, length}
use Rattle.std.specs.Prelude.{if◌then◌else◌}
use Rattle.std.specs.Ordering.{match_ordering}
use Rattle.std.specs.declared.cmp.Ordering.{Ordering}
use Rattle.std.specs.declared.cmp.Ordering.TheVariants.{Less, Equal, Greater}
use Rattle.hwdb_spec.specs.Assignment.{Assignment}
use Rattle.hwdb_spec_commands.specs.Differences.{change_between}
use Rattle.hwdb_spec_commands.specs.Differences.Change.{Came, Went}
use Rattle.hwdb_spec.specs.Tree.{Tree, Value, key_of, values_of}
use Rattle.hwdb_reader.specs.Views.{entered_tree, shown}
use Rattle.hwdb_reader.specs.declared.view.Inside.{Inside}
use Rattle.hwdb_query.specs.Internal.Members.{own_members}
use Rattle.hwdb_query.specs.Lemmas.Parts.{own_next, shown_some}
use Rattle.hwdb_databases.specs.Internal.Merging.{by_place, merged, merged_from}
use Rattle.hwdb_databases.specs.Internal.Meeting.{IsMet, IsNext, IsUnderWay, after_next, head_of, left_of, unread_of, old_by, unlooked}
use Rattle.hwdb_databases.specs.Internal.Trails.{path_of}
use Rattle.hwdb_databases.specs.Internal.Walks.{own_of, rest_of, to_come}
use Rattle.hwdb_databases.specs.declared.meeting.Side.{Side}
use Rattle.hwdb_databases.specs.declared.meeting.Side.TheVariants.{Old, New, Both}
use Rattle.hwdb_reader.specs.Unread.{text_of, value_in}
use Rattle.hwdb_reader.specs.declared.unread.UnreadEntry.{UnreadEntry}
use Rattle.hwdb_databases.specs.declared.members.Members.{Members}
use Rattle.hwdb_databases.specs.declared.walk.OpenVisit.{OpenVisit}
use Rattle.hwdb_databases.specs.declared.walk.Walk.{Walk}

-- ---- the assignments of one

-- no value of the node was looked at
pub none_looked : (path : List ℕ) (at : Option Inside) → unlooked 0 path at ≡ own_of path at
none_looked path None = refl
none_looked path (Some inside) = refl

pub some_next : (o : Option UnreadEntry) (P : Type 0) → true ≡ is_some o → IfNone o P
some_next None P h = cc
some_next (Some m) P h = tt

keyed : (c : ℕ) (k : List ℕ) (b : Bool) → true ≡ is_some (if b then Some k else None) → (if b then Some k else None) ≡ Some k
keyed c k true h = refl
keyed c k false h = absurd (cc)

-- a stored key that begins with a space, and one that doesn't
has_key : (t : List ℕ) → true ≡ is_some (key_of t) → key_of t ≡ Some (drop 1 t)
has_key [] h = absurd (cc)
has_key (c ∷ k) h = keyed c k (c == 32) h

unkeyed : (k : List ℕ) (b : Bool) → false ≡ is_some (if b then Some k else None) → (if b then Some k else None) ≡ None
unkeyed k true h = absurd (cc)
unkeyed k false h = refl

pub no_key : (t : List ℕ) → false ≡ is_some (key_of t) → key_of t ≡ None
no_key [] h = refl
no_key (c ∷ k) h = unkeyed k (c == 32) h

-- a value of the node is the next one
pub found_here : (walk mine : Walk) (e : UnreadEntry) (values : List Value) (i looked : ℕ) → walk ≡ mine → true ≡ is_some (key_of (text_of e.key))
    → slice_get values i ≡ Some (value_in e)
    → own_members (path_of mine.trail) (drop i values) ≡ own_members (path_of mine.trail) (drop looked values)
    → unread_of (path_of walk.trail) e ∷ own_members (path_of walk.trail) (drop (i + 1) values) ≡ own_members (path_of mine.trail) (drop looked values)
found_here walk mine e values i looked same key at rest =
    let p = (path_of mine.trail) in
    let s = shown (value_in e) in
    ap (λ (w : Walk). unread_of (path_of w.trail) e ∷ own_members (path_of w.trail) (drop (i + 1) values)) same
    ∙ ap (λ n. unread_of p e ∷ own_members p (drop n values)) (add-one i)
    ∙ ap (λ r. r ++ own_members p (drop (suc i) values)) (sym (shown_some p (drop 1 (text_of e.key)) s (has_key (text_of e.key) key)))
    ∙ sym (own_next p values i s (ap (option_map shown) at)) ∙ rest

-- the next one was found at the node that the walk is at
pub found_next : (old now : Members) (inside : Inside) → now.walk ≡ old.walk → old.walk.at ≡ Some inside
    → head_of (path_of now.walk.trail) now.next ++ own_members (path_of now.walk.trail) (drop now.looked (values_of (entered_tree inside)))
    ≡ own_members (path_of old.walk.trail) (drop old.looked (values_of (entered_tree inside)))
    → left_of now ≡ after_next old
found_next old now inside same at found =
    let here : now.walk.at ≡ Some inside = ap (λ (w : Walk). w.at) same ∙ at in
    let path = (path_of now.walk.trail) in
    ap (λ (o : Option Inside). head_of path now.next ++ (unlooked now.looked path o ++ rest_of now.walk)) here
    ∙ sym (append_assoc (head_of path now.next) (own_members path (drop now.looked (values_of (entered_tree inside)))) (rest_of now.walk))
    ∙ ap (λ l. l ++ rest_of now.walk) found
    ∙ ap (λ (w : Walk). own_members (path_of old.walk.trail) (drop old.looked (values_of (entered_tree inside))) ++ rest_of w) same
    ∙ ap (λ (o : Option Inside). unlooked old.looked (path_of old.walk.trail) o ++ rest_of old.walk) (sym at)

-- the node that the walk is at has none that is left
pub next_node : (old : Members) (walk now : Walk) (inside : Inside) → walk ≡ old.walk → old.walk.at ≡ Some inside
    → own_members (path_of old.walk.trail) (drop old.looked (values_of (entered_tree inside))) ≡ []
    → own_of (path_of now.trail) now.at ++ rest_of now ≡ rest_of walk
    → unlooked 0 (path_of now.trail) now.at ++ rest_of now ≡ after_next old
next_node old walk now inside same at none rest =
    ap (λ l. l ++ rest_of now) (none_looked (path_of now.trail) now.at) ∙ rest ∙ ap rest_of same
    ∙ ap (λ l. l ++ rest_of old.walk) (sym none)
    ∙ ap (λ (o : Option Inside). unlooked old.looked (path_of old.walk.trail) o ++ rest_of old.walk) (sym at)

pub next_is : (m : Members) (x : UnreadEntry) → m.next ≡ Some x → left_of m ≡ unread_of (path_of m.walk.trail) x ∷ after_next m
next_is m x is = ap (λ (n : Option UnreadEntry). head_of (path_of m.walk.trail) n ++ after_next m) is

-- the next one was passed over
pub passed : (old now : Members) (x : UnreadEntry) → old.next ≡ Some x → left_of now ≡ after_next old → left_of old ≡ unread_of (path_of old.walk.trail) x ∷ left_of now
passed old now x is left =
    next_is old x is ∙ ap (λ r. unread_of (path_of old.walk.trail) x ∷ r) (sym left)

-- none is left
pub none_left : (m : Members) (t : Tree) → IsUnderWay t m → IfNone m.next (m.walk.at ≡ None) → m.next ≡ None → left_of m ≡ []
none_left m t way end next =
    let at : m.walk.at ≡ None = subst (λ (o : Option UnreadEntry). IfNone o (m.walk.at ≡ None)) next end in
    let empty : m.walk.stack.items ≡ [] = subst (λ (o : Option Inside). IfNone o (m.walk.stack.items ≡ [])) at way.end in
    ap (λ (g : Option UnreadEntry × Option Inside × List OpenVisit).
    head_of (path_of m.walk.trail) g.0 ++ (unlooked m.looked (path_of m.walk.trail) g.1 ++ to_come m.walk.trail.segments.items (reverse g.2)))
    (λ i. (next i, at i, empty i))

-- ---- the first of two lists

pub old_met : (xs ys more : List Assignment) (x : Assignment) → xs ≡ x ∷ more → ys ≡ [] → merged xs ys ≡ Went x ∷ merged more ys
unfolding merged merged_from
old_met xs ys more x o n =
    ap (λ (g : List Assignment × List Assignment). merged g.0 g.1) (λ i. (o i, n i)) ∙ ap (λ l. Went x ∷ merged more l) (sym n)

pub new_met : (xs ys more : List Assignment) (y : Assignment) → xs ≡ [] → ys ≡ y ∷ more → merged xs ys ≡ Came y ∷ merged xs more
unfolding merged
new_met xs ys more y o n =
    ap (λ (g : List Assignment × List Assignment). merged g.0 g.1) (λ i. (o i, n i)) ∙ ap (λ l. Came y ∷ merged l more) (sym o)

first_of_both : (x y : Assignment) (xs ys : List Assignment) → merged (x ∷ xs) (y ∷ ys)
    ≡ match_ordering (by_place x y) (Went x ∷ merged xs (y ∷ ys)) (change_between x y ++ merged xs ys) (Came y ∷ merged (x ∷ xs) ys)
unfolding merged merged_from
first_of_both x y xs ys = refl

module _ (old new xs ys : List Assignment) (x y : Assignment) (o : old ≡ x ∷ xs) (n : new ≡ y ∷ ys) where
  met : (r : Ordering) → by_place x y ≡ r → merged old new ≡ match_ordering r (Went x ∷ merged xs new) (change_between x y ++ merged xs ys) (Came y ∷ merged old ys)
  met r e =
      ap (λ (g : List Assignment × List Assignment). merged g.0 g.1) (λ i. (o i, n i)) ∙ first_of_both x y xs ys
      ∙ ap (λ q. match_ordering q (Went x ∷ merged xs (y ∷ ys)) (change_between x y ++ merged xs ys) (Came y ∷ merged (x ∷ xs) ys)) e
      ∙ ap (λ (g : List Assignment × List Assignment). match_ordering r (Went x ∷ merged xs g.1) (change_between x y ++ merged xs ys) (Came y ∷ merged g.0 ys)) (λ i. (sym o i, sym n i))

  pub less_met : by_place x y ≡ Less → merged old new ≡ Went x ∷ merged xs new
  less_met e = met Less e

  pub equal_met : by_place x y ≡ Equal → merged old new ≡ change_between x y ++ merged xs ys
  equal_met e = met Equal e

  pub greater_met : by_place x y ≡ Greater → merged old new ≡ Came y ∷ merged old ys
  greater_met e = met Greater e

-- ---- the least of what is left of two databases

module _ (old new : Members) (x y : UnreadEntry) where
  pub met_old : new.next ≡ Some y → by_place (unread_of (path_of old.walk.trail) x) (unread_of (path_of new.walk.trail) y) ≡ Less → IsMet old new (Old x)
  met_old is e xs ys o n =
      less_met (left_of old) (left_of new) xs (after_next new) (unread_of (path_of old.walk.trail) x) (unread_of (path_of new.walk.trail) y) o (next_is new y is) e
      ∙ ap (λ l. Went (unread_of (path_of old.walk.trail) x) ∷ merged xs l) n

  pub met_both : by_place (unread_of (path_of old.walk.trail) x) (unread_of (path_of new.walk.trail) y) ≡ Equal → IsMet old new (Both x y)
  met_both e xs ys o n = equal_met (left_of old) (left_of new) xs ys (unread_of (path_of old.walk.trail) x) (unread_of (path_of new.walk.trail) y) o n e

  pub met_new : old.next ≡ Some x → by_place (unread_of (path_of old.walk.trail) x) (unread_of (path_of new.walk.trail) y) ≡ Greater → IsMet old new (New y)
  met_new is e xs ys o n =
      greater_met (left_of old) (left_of new) (after_next old) ys (unread_of (path_of old.walk.trail) x) (unread_of (path_of new.walk.trail) y) (next_is old x is) n e
      ∙ ap (λ l. Came (unread_of (path_of new.walk.trail) y) ∷ merged l ys) o

pub alone_old : (old new : Members) (x : UnreadEntry) → left_of new ≡ [] → IsMet old new (Old x)
alone_old old new x none xs ys o n =
    old_met (left_of old) (left_of new) xs (unread_of (path_of old.walk.trail) x) o none ∙ ap (λ l. Went (unread_of (path_of old.walk.trail) x) ∷ merged xs l) n

pub alone_new : (old new : Members) (y : UnreadEntry) → left_of old ≡ [] → IsMet old new (New y)
alone_new old new y none xs ys o n =
    new_met (left_of old) (left_of new) ys (unread_of (path_of new.walk.trail) y) none n ∙ ap (λ l. Came (unread_of (path_of new.walk.trail) y) ∷ merged l ys) o

-- ---- one of them is left at least

one_left : (m : Members) (x : UnreadEntry) → m.next ≡ Some x → 1 ≤ length (left_of m)
one_left m x is = let size = ap length (next_is m x is) in omega (arith, size)

pub next_old : (old new : Members) (side : Side) (p : List ℕ) → IsNext old new side → length (old_by p side) ≤ length (left_of old)
next_old old new (Old x) p h = one_left old x h
next_old old new (New y) p h = omega arith
next_old old new (Both x y) p h = one_left old x h.0

pub next_some : (old new : Members) (side : Side) → IsNext old new side → 1 ≤ length (left_of old) + length (left_of new)
next_some old new (Old x) h = let one = one_left old x h in omega (arith, one)
next_some old new (New y) h = let one = one_left new y h in omega (arith, one)
next_some old new (Both x y) h = let one = one_left old x h.0 in omega (arith, one)
