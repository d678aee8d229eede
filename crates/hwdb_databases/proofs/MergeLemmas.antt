-- Two ascending lists, gone through side by side, give the changes from the one map to the other.
use Rattle.std.proofs.Common.{◌≡◌, ◌∙◌, ap, sym, refl, subst, ℕ, List, [], ◌∷◌, ◌++◌, map, Option, Some, None, Bool, true, false, cond, T, is_some, ◌||◌}
use Rattle.std.specs.Prelude.{flat_map}
use Rattle.std.specs.FinMap as finite
use Rattle.std.specs.FinMap.Entries.{is_sorted, below_all, find, same_entries}
use Rattle.std.specs.Ordering.{match_ordering, is_lt, is_eq, ordering_reverse}
use Rattle.std.specs.declared.cmp.Ordering.{Ordering}
use Rattle.std.specs.declared.cmp.Ordering.TheVariants.{Less, Equal, Greater}
use Rattle.std.proofs.lemmas.Cmp.{alike_right}
use Rattle.hwdb_spec.specs.Assignment.{Assignment}
use Rattle.hwdb_spec.specs.Tree.{Tree, IsTree, place_cmp, entry_of, map_of, Map, members_under}
use Rattle.hwdb_spec_commands.specs.Differences.{Change, change_between, change_at, joined, differences}
use Rattle.hwdb_spec_commands.specs.Differences.Change.{Came, Went}
use Rattle.hwdb_databases.specs.Internal.Merging.{place_of, by_place, merged, merged_from, Both, Pairs, paired, paired_from}
use Rattle.hwdb_databases.proofs.OrderLemmas.{and_of, and_first, and_second, is_less, entries_of_tree}
use Rattle.hwdb_spec.specs.Lemmas.Orders.{equal_of}
use Rattle.hwdb_spec.specs.Lemmas.Places.{equal_place, place_total}

abbrev Place : Type 0
Place = List ℕ × List ℕ

-- the entries of a list of assignments
abbrev entries_of : List Assignment → List (Place × Assignment)
entries_of xs = map entry_of xs

abbrev changes_in : Pairs → List Change
changes_in pairs = flat_map (λ p. change_at p.1.0 p.1.1) pairs

-- ---- the pairs give the changes

came_all : (ys : List Assignment) → changes_in (map (λ y. (place_of y, (None, Some y))) ys) ≡ map Came ys
came_all [] = refl
came_all (y ∷ ys) = ap (λ r. Came y ∷ r) (came_all ys)

from_changes : (x : Assignment) (pairs : List Assignment → Pairs) (rest : List Assignment → List Change) → ((ys : List Assignment) → changes_in (pairs ys) ≡ rest ys)
    → (ys : List Assignment) → changes_in (paired_from x pairs ys) ≡ merged_from x rest ys
unfolding paired_from merged_from
from_changes x pairs rest is [] = ap (λ r. Went x ∷ r) (is [])
from_changes x pairs rest is (y ∷ ys) =
    let again : changes_in (paired_from x pairs ys) ≡ merged_from x rest ys = from_changes x pairs rest is ys in
    elim (by_place x y) as (λ o.
    changes_in (match_ordering o ((place_of x, (Some x, None)) ∷ pairs (y ∷ ys)) ((place_of x, (Some x, Some y)) ∷ pairs ys) ((place_of y, (None, Some y)) ∷ paired_from x pairs ys))
    ≡ match_ordering o (Went x ∷ rest (y ∷ ys)) (change_between x y ++ rest ys) (Came y ∷ merged_from x rest ys)) [
      | Less ↦ ap (λ r. Went x ∷ r) (is (y ∷ ys))
      | Equal ↦ ap (λ r. change_between x y ++ r) (is ys)
      | Greater ↦ ap (λ r. Came y ∷ r) again
    ]

paired_changes : (xs ys : List Assignment) → changes_in (paired xs ys) ≡ merged xs ys
unfolding paired merged
paired_changes [] ys = came_all ys
paired_changes (x ∷ xs) ys = from_changes x (paired xs) (merged xs) (paired_changes xs) ys

-- ---- the pairs ascend

below_far : (p q : Place) (es : List (Place × Assignment)) → place_cmp p q ≡ Less → T (below_all place_cmp q es) → T (below_all place_cmp p es)
below_far p q [] l h = tt
below_far p q (e ∷ es) l h =
    let first : T (is_lt (place_cmp q e.0)) = and_first _ _ h in
    and_of _ _ (is_less (place_cmp p e.0) (place_total.trans p q e.0 l (less_is (place_cmp q e.0) first))) (below_far p q es l (and_second _ _ h))
  where
    less_is : (o : Ordering) → T (is_lt o) → o ≡ Less
    less_is Less t = refl
    less_is Equal t = absurd t
    less_is Greater t = absurd t

below_tied : (p q : Place) (es : List (Place × Assignment)) → place_cmp p q ≡ Equal → T (below_all place_cmp q es) → T (below_all place_cmp p es)
below_tied p q [] l h = tt
below_tied p q (e ∷ es) l h = and_of _ _ (subst (λ o. T (is_lt o)) (sym (place_total.congr p q e.0 l)) (and_first _ _ h)) (below_tied p q es l (and_second _ _ h))

abbrev came_pairs : List Assignment → Pairs
came_pairs ys = map (λ y. (place_of y, (None, Some y))) ys

came_below : (p : Place) (ys : List Assignment) → T (below_all place_cmp p (entries_of ys)) → T (below_all place_cmp p (came_pairs ys))
came_below p [] h = tt
came_below p (y ∷ ys) h = and_of _ _ (and_first _ _ h) (came_below p ys (and_second _ _ h))

came_sorted : (ys : List Assignment) → T (is_sorted place_cmp (entries_of ys)) → T (is_sorted place_cmp (came_pairs ys))
came_sorted [] h = tt
came_sorted (y ∷ ys) h = and_of _ _ (came_below (place_of y) ys (and_first _ _ h)) (came_sorted ys (and_second _ _ h))

abbrev PairsBelow : List Assignment → (List Assignment → Pairs) → Type 0
PairsBelow xs pairs =
    (p : Place) (ys : List Assignment) → T (below_all place_cmp p (entries_of xs)) → T (below_all place_cmp p (entries_of ys)) → T (below_all place_cmp p (pairs ys))

from_below : (x : Assignment) (xs : List Assignment) (pairs : List Assignment → Pairs) → PairsBelow xs pairs → PairsBelow (x ∷ xs) (paired_from x pairs)
unfolding paired_from
from_below x xs pairs below p [] h k = and_of _ _ (and_first _ _ h) (below p [] (and_second _ _ h) tt)
from_below x xs pairs below p (y ∷ ys) h k =
    let again : T (below_all place_cmp p (paired_from x pairs ys)) = from_below x xs pairs below p ys h (and_second _ _ k) in
    elim (by_place x y) as (λ o.
    T (below_all place_cmp p (match_ordering o ((place_of x, (Some x, None)) ∷ pairs (y ∷ ys)) ((place_of x, (Some x, Some y)) ∷ pairs ys) ((place_of y, (None, Some y)) ∷ paired_from x pairs ys)))) [
      | Less ↦ and_of _ _ (and_first _ _ h) (below p (y ∷ ys) (and_second _ _ h) k)
      | Equal ↦ and_of _ _ (and_first _ _ h) (below p ys (and_second _ _ h) (and_second _ _ k))
      | Greater ↦ and_of _ _ (and_first _ _ k) again
    ]

paired_below : (xs : List Assignment) → PairsBelow xs (paired xs)
unfolding paired
paired_below [] p ys h k = came_below p ys k
paired_below (x ∷ xs) p ys h k = from_below x xs (paired xs) (paired_below xs) p ys h k

turned_less : (x y : Assignment) → by_place x y ≡ Greater → by_place y x ≡ Less
turned_less x y e = place_total.antisymm (place_of y) (place_of x) ∙ ap ordering_reverse e

from_sorted : (x : Assignment) (xs : List Assignment) → T (is_sorted place_cmp (entries_of (x ∷ xs))) → ((ys : List Assignment) → T (is_sorted place_cmp (entries_of ys)) → T (is_sorted place_cmp (paired xs ys)))
    → (ys : List Assignment) → T (is_sorted place_cmp (entries_of ys)) → T (is_sorted place_cmp (paired_from x (paired xs) ys))
unfolding paired_from
from_sorted x xs h rest [] k = and_of _ _ (paired_below xs (place_of x) [] (and_first _ _ h) tt) (rest [] tt)
from_sorted x xs h rest (y ∷ ys) k =
    let again : T (is_sorted place_cmp (paired_from x (paired xs) ys)) = from_sorted x xs h rest ys (and_second _ _ k) in
    elim (by_place x y) as (λ o. by_place x y ≡ o →
    T (is_sorted place_cmp (match_ordering o ((place_of x, (Some x, None)) ∷ paired xs (y ∷ ys)) ((place_of x, (Some x, Some y)) ∷ paired xs ys) ((place_of y, (None, Some y)) ∷ paired_from x (paired xs) ys)))) [
      | Less ↦ λ e. and_of _ _
          (paired_below xs (place_of x) (y ∷ ys) (and_first _ _ h) (and_of _ _ (is_less (by_place x y) e) (below_far (place_of x) (place_of y) (entries_of ys) e (and_first _ _ k))))
          (rest (y ∷ ys) k)
      | Equal ↦ λ e. and_of _ _ (paired_below xs (place_of x) ys (and_first _ _ h) (below_tied (place_of x) (place_of y) (entries_of ys) e (and_first _ _ k))) (rest ys (and_second _ _ k))
      | Greater ↦ λ e. and_of _ _
          (from_below x xs (paired xs) (paired_below xs) (place_of y) ys
          (and_of _ _ (is_less (by_place y x) (turned_less x y e)) (below_far (place_of y) (place_of x) (entries_of xs) (turned_less x y e) (and_first _ _ h))) (and_first _ _ k))
          again
    ] refl

paired_sorted : (xs ys : List Assignment) → T (is_sorted place_cmp (entries_of xs)) → T (is_sorted place_cmp (entries_of ys)) → T (is_sorted place_cmp (paired xs ys))
unfolding paired
paired_sorted [] ys h k = came_sorted ys k
paired_sorted (x ∷ xs) ys h k = from_sorted x xs h (λ zs l. paired_sorted xs zs (and_second _ _ h) l) ys k

-- ---- what the pairs have at a pattern and key

-- what two maps have there, if one of them has something
abbrev both_of : Option Assignment → Option Assignment → Option Both
both_of None None = None
both_of None (Some y) = Some (None, Some y)
both_of (Some x) b = Some (Some x, b)

abbrev look : Place → List Assignment → Option Assignment
look q xs = find place_cmp q (entries_of xs)

-- a place that is below all, or ties with one that is, has nothing
look_below : (p q : Place) (xs : List Assignment) → place_cmp q p ≡ Equal → T (below_all place_cmp p (entries_of xs)) → look q xs ≡ None
look_below p q [] e h = refl
look_below p q (x ∷ xs) e h =
    let rest : look q xs ≡ None = look_below p q xs e (and_second _ _ h) in
    apart (place_cmp q (place_of x)) (sym (place_total.congr q p (place_of x) e)) (and_first _ _ h) ∙ rest
  where
    apart : (o : Ordering) → place_cmp p (place_of x) ≡ o → T (is_lt (place_cmp p (place_of x))) → cond (is_eq o) (Some x) (look q xs) ≡ look q xs
    apart Less e t = refl
    apart Equal e t = absurd (subst (λ r. T (is_lt r)) e t)
    apart Greater e t = refl

look_came : (q : Place) (ys : List Assignment) → find place_cmp q (came_pairs ys) ≡ both_of None (look q ys)
look_came q [] = refl
look_came q (y ∷ ys) =
    let rest : find place_cmp q (came_pairs ys) ≡ both_of None (look q ys) = look_came q ys in
    elim (is_eq (place_cmp q (place_of y))) as (λ b.
    cond b (let is : Option Both = Some (None, Some y) in is) (find place_cmp q (came_pairs ys)) ≡ both_of None (cond b (Some y) (look q ys))) [ true ↦ refl | false ↦ rest ]

look_at : (q : Place) (x : Assignment) (xs : List Assignment) (b : Bool) → is_eq (place_cmp q (place_of x)) ≡ b → look q (x ∷ xs) ≡ cond b (Some x) (look q xs)
look_at q x xs b e = ap (λ c. cond c (Some x) (look q xs)) e

both_some : (x : Assignment) (b c : Option Assignment) → b ≡ Some x → c ≡ None → both_of b c ≡ Some (Some x, None)
both_some x b c e f = ap (λ o. both_of o c) e ∙ ap (λ o. both_of (Some x) o) f

both_came : (y : Assignment) (b c : Option Assignment) → b ≡ None → c ≡ Some y → both_of b c ≡ Some (None, Some y)
both_came y b c e f = ap (λ o. both_of o c) e ∙ ap (λ o. both_of None o) f

abbrev Looks : List Assignment → (List Assignment → Pairs) → Type 0
Looks xs pairs = (ys : List Assignment) → T (is_sorted place_cmp (entries_of ys)) → (q : Place) → find place_cmp q (pairs ys) ≡ both_of (look q xs) (look q ys)

-- a pair in front, at a place that is no place of one of the two lists after it
front : (q : Place) (p : Place) (b : Both) (pairs : Pairs) (old new old_rest new_rest : Option Assignment)
    → (is_eq (place_cmp q p) ≡ true → both_of old new ≡ Some b)
    → (is_eq (place_cmp q p) ≡ false → (old ≡ old_rest) × (new ≡ new_rest))
    → find place_cmp q pairs ≡ both_of old_rest new_rest
    → cond (is_eq (place_cmp q p)) (Some b) (find place_cmp q pairs) ≡ both_of old new
front q p b pairs old new old_rest new_rest here apart rest =
    elim (is_eq (place_cmp q p)) as (λ c. is_eq (place_cmp q p) ≡ c → cond c (Some b) (find place_cmp q pairs) ≡ both_of old new) [
      | true ↦ λ e. sym (here e)
      | false ↦ λ e. rest ∙ ap (λ (g : Option Assignment × Option Assignment). both_of g.0 g.1) (λ i. (sym (apart e).0 i, sym (apart e).1 i))
    ] refl

from_look : (x : Assignment) (xs : List Assignment) (pairs : List Assignment → Pairs) → T (is_sorted place_cmp (entries_of (x ∷ xs))) → Looks xs pairs → Looks (x ∷ xs) (paired_from x pairs)
unfolding paired_from
from_look x xs pairs h rest [] k q =
    front q (place_of x) (Some x, None) (pairs []) (look q (x ∷ xs)) (look q []) (look q xs) (look q [])
    (λ e. both_some x (look q (x ∷ xs)) None (look_at q x xs true e) refl) (λ e. (look_at q x xs false e, refl)) (rest [] k q)
from_look x xs pairs h rest (y ∷ ys) k q =
    let again : find place_cmp q (paired_from x pairs ys) ≡ both_of (look q (x ∷ xs)) (look q ys) = from_look x xs pairs h rest ys (and_second _ _ k) q in
    elim (by_place x y) as (λ o. by_place x y ≡ o →
    find place_cmp q (match_ordering o ((place_of x, (Some x, None)) ∷ pairs (y ∷ ys)) ((place_of x, (Some x, Some y)) ∷ pairs ys) ((place_of y, (None, Some y)) ∷ paired_from x pairs ys))
    ≡ both_of (look q (x ∷ xs)) (look q (y ∷ ys))) [
      | Less ↦ λ l.
          let far : T (below_all place_cmp (place_of x) (entries_of (y ∷ ys))) = and_of _ _ (is_less (by_place x y) l) (below_far (place_of x) (place_of y) (entries_of ys) l (and_first _ _ k)) in
          front q (place_of x) (Some x, None) (pairs (y ∷ ys)) (look q (x ∷ xs)) (look q (y ∷ ys)) (look q xs) (look q (y ∷ ys))
          (λ e. both_some x (look q (x ∷ xs)) (look q (y ∷ ys)) (look_at q x xs true e) (look_below (place_of x) q (y ∷ ys) (equal_of _ e) far))
          (λ e. (look_at q x xs false e, refl)) (rest (y ∷ ys) k q)
      | Equal ↦ λ l.
          let tie : is_eq (place_cmp q (place_of x)) ≡ is_eq (place_cmp q (place_of y)) = ap is_eq (alike_right place_total (place_of x) (place_of y) q l) in
          front q (place_of x) (Some x, Some y) (pairs ys) (look q (x ∷ xs)) (look q (y ∷ ys)) (look q xs) (look q ys)
          (λ e. ap (λ o. both_of o (look q (y ∷ ys))) (look_at q x xs true e) ∙ ap (λ o. both_of (Some x) o) (look_at q y ys true (sym tie ∙ e)))
          (λ e. (look_at q x xs false e, look_at q y ys false (sym tie ∙ e))) (rest ys (and_second _ _ k) q)
      | Greater ↦ λ l.
          let less = turned_less x y l in
          let far : T (below_all place_cmp (place_of y) (entries_of (x ∷ xs))) = and_of _ _ (is_less (by_place y x) less) (below_far (place_of y) (place_of x) (entries_of xs) less (and_first _ _ h)) in
          front q (place_of y) (None, Some y) (paired_from x pairs ys) (look q (x ∷ xs)) (look q (y ∷ ys)) (look q (x ∷ xs)) (look q ys)
          (λ e. both_came y (look q (x ∷ xs)) (look q (y ∷ ys)) (look_below (place_of y) q (x ∷ xs) (equal_of _ e) far) (look_at q y ys true e))
          (λ e. (refl, look_at q y ys false e)) again
    ] refl

paired_look : (xs : List Assignment) → T (is_sorted place_cmp (entries_of xs)) → Looks xs (paired xs)
unfolding paired
paired_look [] h ys k q = look_came q ys
paired_look (x ∷ xs) h ys k q = from_look x xs (paired xs) h (paired_look xs (and_second _ _ h)) ys k q

-- ---- the pairs, as the definition has them

abbrev Entries : Type 0
Entries = List (Place × Assignment)

-- what two functions have at each key
abbrev named : (Place → Option Assignment) → (Place → Option Assignment) → Entries → Pairs
named f g es = map (λ e. (e.0, (f e.0, g e.0))) es

named_changes : (f g : Place → Option Assignment) (es : Entries) → changes_in (named f g es) ≡ flat_map (λ p. change_at (f p) (g p)) (map (λ e. e.0) es)
named_changes f g [] = refl
named_changes f g (e ∷ es) = ap (λ r. change_at (f e.0) (g e.0) ++ r) (named_changes f g es)

named_below : (f g : Place → Option Assignment) (p : Place) (es : Entries) → T (below_all place_cmp p es) → T (below_all place_cmp p (named f g es))
named_below f g p [] h = tt
named_below f g p (e ∷ es) h = and_of _ _ (and_first _ _ h) (named_below f g p es (and_second _ _ h))

named_sorted : (f g : Place → Option Assignment) (es : Entries) → T (is_sorted place_cmp es) → T (is_sorted place_cmp (named f g es))
named_sorted f g [] h = tt
named_sorted f g (e ∷ es) h = and_of _ _ (named_below f g e.0 es (and_first _ _ h)) (named_sorted f g es (and_second _ _ h))

named_look : (f g : Place → Option Assignment) (q : Place) (es : Entries) → find place_cmp q (named f g es) ≡ cond (is_some (find place_cmp q es)) (Some (f q, g q)) None
named_look f g q [] = refl
named_look f g q (e ∷ es) =
    let rest : find place_cmp q (named f g es) ≡ cond (is_some (find place_cmp q es)) (Some (f q, g q)) None = named_look f g q es in
    elim (is_eq (place_cmp q e.0)) as (λ b. is_eq (place_cmp q e.0) ≡ b →
    cond b (Some (f e.0, g e.0)) (find place_cmp q (named f g es)) ≡ cond (is_some (cond b (Some e.1) (find place_cmp q es))) (Some (f q, g q)) None) [
      | true ↦ λ t. ap (λ (p : Place). let is : Option Both = Some (f p, g p) in is) (sym (equal_place q e.0 (equal_of _ t)))
      | false ↦ λ t. rest
    ] refl

some_append : (q : Place) (es fs : Entries) → is_some (find place_cmp q (es ++ fs)) ≡ (is_some (find place_cmp q es) || is_some (find place_cmp q fs))
some_append q [] fs = refl
some_append q (e ∷ es) fs =
    let rest : is_some (find place_cmp q (es ++ fs)) ≡ (is_some (find place_cmp q es) || is_some (find place_cmp q fs)) = some_append q es fs in
    elim (is_eq (place_cmp q e.0)) as (λ b. is_some (cond b (Some e.1) (find place_cmp q (es ++ fs))) ≡ (is_some (cond b (Some e.1) (find place_cmp q es)) || is_some (find place_cmp q fs))) [
      | true ↦ refl
      | false ↦ rest
    ]

both_is : (b c : Option Assignment) → cond (is_some b || is_some c) (Some (b, c)) None ≡ both_of b c
both_is None None = refl
both_is None (Some y) = refl
both_is (Some x) c = refl

module _ (m n : Map) (xs ys : List Assignment) (old : finite.entries m ≡ entries_of xs) (new : finite.entries n ≡ entries_of ys) where
  sorted_old : T (is_sorted place_cmp (entries_of xs))
  sorted_old = subst (λ es. T (is_sorted place_cmp es)) old (finite.entries_sorted m)

  sorted_new : T (is_sorted place_cmp (entries_of ys))
  sorted_new = subst (λ es. T (is_sorted place_cmp es)) new (finite.entries_sorted n)

  get_old : (q : Place) → finite.get m q ≡ look q xs
  get_old q = finite.get-entries m q ∙ ap (find place_cmp q) old

  get_new : (q : Place) → finite.get n q ≡ look q ys
  get_new q = finite.get-entries n q ∙ ap (find place_cmp q) new

  some_joined : (q : Place) → is_some (find place_cmp q (finite.entries (joined m n))) ≡ (is_some (finite.get m q) || is_some (finite.get n q))
  some_joined q =
      ap is_some (sym (finite.get-entries (joined m n) q) ∙ finite.get-from_entries place_total (finite.entries m ++ finite.entries n) q)
      ∙ some_append q (finite.entries m) (finite.entries n)
      ∙ ap (λ (g : Option Assignment × Option Assignment). is_some g.0 || is_some g.1) (λ i. (sym (finite.get-entries m q) i, sym (finite.get-entries n q) i))

  same_pairs : named (finite.get m) (finite.get n) (finite.entries (joined m n)) ≡ paired xs ys
  same_pairs = same_entries place_cmp place_total equal_place _ _
      (named_sorted (finite.get m) (finite.get n) (finite.entries (joined m n)) (finite.entries_sorted (joined m n)))
      (paired_sorted xs ys sorted_old sorted_new)
      (λ q. named_look (finite.get m) (finite.get n) q (finite.entries (joined m n))
      ∙ ap (λ b. cond b (let is : Option Both = Some (finite.get m q, finite.get n q) in is) None) (some_joined q)
      ∙ both_is (finite.get m q) (finite.get n q)
      ∙ ap (λ (g : Option Assignment × Option Assignment). both_of g.0 g.1) (λ i. (get_old q i, get_new q i))
      ∙ sym (paired_look xs sorted_old ys sorted_new q))

  pub merged_differences : differences m n ≡ merged xs ys
  unfolding differences
  merged_differences =
      sym (named_changes (finite.get m) (finite.get n) (finite.entries (joined m n))) ∙ ap changes_in same_pairs ∙ paired_changes xs ys

-- the changes from one tree to another
pub merged_trees : (t u : Tree) → IsTree t → IsTree u → differences (map_of t) (map_of u) ≡ merged (members_under [] t) (members_under [] u)
merged_trees t u h k = merged_differences (map_of t) (map_of u) (members_under [] t) (members_under [] u) (entries_of_tree t h) (entries_of_tree u k)

-- the changes between the lists of two trees
pub listed_differences : (t u : Tree) (olds news : List Assignment) → IsTree t → IsTree u → olds ≡ members_under [] t → news ≡ members_under [] u
    → merged olds news ≡ differences (map_of t) (map_of u)
listed_differences t u olds news h k old new =
    ap (λ (g : List Assignment × List Assignment). merged g.0 g.1) (λ i. (old i, new i)) ∙ sym (merged_trees t u h k)
