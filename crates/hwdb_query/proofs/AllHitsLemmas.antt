-- All hits, put in their places one after another.
use Rattle.std.proofs.Common.{◌≡◌, ◌∙◌, ap, sym, refl, subst, ℕ, suc, ◌≤◌, List, [], ◌∷◌, ◌++◌, map, filter, Some, None, option_map, drop, length, slice_get, inl, inr}
use Rattle.std.specs.FinMap as finite
use Rattle.std.specs.declared.cmp.Ordering.{Ordering}
use Rattle.std.specs.declared.cmp.Ordering.TheVariants.{Less, Equal, Greater}
use Rattle.std.specs.Ordering.{match_ordering, nat_cmp, ordering_then}
use Rattle.std.specs.Cmp.Lexicographic.{slice_cmp}
use Rattle.std.specs.BTreeMap.{insert_entry}
use Rattle.hwdb_spec.specs.Assignment.{Assignment, Position, position_cmp, assignment_cmp, text_cmp, put, put_all, in_order}
use Rattle.hwdb_spec.specs.Answers.{is_wanted}
use Rattle.hwdb_spec.specs.Tree.{Tree, Value, IsTree, members_under, values_under}
use Rattle.hwdb_reader.specs.Views.{Shown, shown}
use Rattle.hwdb_query.specs.Laws.{Among}
use Rattle.hwdb_query.specs.Internal.Members.{one_assignment, assignment_shown, own_members}
use Rattle.hwdb_query.specs.Internal.Explaining.{set, set_all, Place, assignment_at_place, all_shown, AllCollects}
use Rattle.hwdb_query.specs.declared.all_hits.AllHits.{AllHits}
use Rattle.hwdb_query.specs.declared.all_hits.HitValue.{HitValue}
use Rattle.hwdb_query.proofs.MemberLemmas.{put_sound, members_single, filter_sound, in_none}
use Rattle.hwdb_query.proofs.DistinctLemmas.{under_distinct}
use Rattle.hwdb_query.specs.Lemmas.Parts.{own_next, own_after}
use Rattle.hwdb_spec.specs.Lemmas.Orders.{equal_text, then_equal}

-- ---- one after another

set_both : (xs ys l : List Assignment) → set_all (xs ++ ys) l ≡ set_all ys (set_all xs l)
unfolding set_all
set_both [] ys l = refl
set_both (x ∷ xs) ys l = set_both xs ys (set x l)

pub all_none : (a : AllHits) → AllCollects a [] a
unfolding AllCollects set_all
all_none a = refl

pub all_more : (a b c : AllHits) (xs ys : List Assignment) → AllCollects a xs b → AllCollects b ys c → AllCollects a (xs ++ ys) c
unfolding AllCollects
all_more a b c xs ys p q = q ∙ ap (set_all ys) p ∙ sym (set_both xs ys (all_shown a))

pub all_values_next : (a b c : AllHits) (pattern : List ℕ) (values : List Value) (i : ℕ) (s : Shown) → option_map shown (slice_get values i) ≡ Some s
    → AllCollects a (assignment_shown pattern s) b → AllCollects b (own_members pattern (drop (suc i) values)) c → AllCollects a (own_members pattern (drop i values)) c
all_values_next a b c pattern values i s at here rest =
    subst (λ xs. AllCollects a xs c) (sym (own_next pattern values i s at)) (all_more a b c (assignment_shown pattern s) (own_members pattern (drop (suc i) values)) here rest)

pub all_values_over : (a : AllHits) (pattern : List ℕ) (values : List Value) (i : ℕ) → length values ≤ i → AllCollects a (own_members pattern (drop i values)) a
all_values_over a pattern values i le = subst (λ xs. AllCollects a xs a) (sym (own_after pattern values i le)) (all_none a)

pub all_offered_none : (a : AllHits) (pattern : List ℕ) (s : Shown) → s.key ≡ None → AllCollects a (assignment_shown pattern s) a
unfolding assignment_shown
all_offered_none a pattern s none = subst (λ o. AllCollects a (one_assignment pattern s o) a) (sym none) (all_none a)

-- ---- one hit in its place

same_position : (x y : Position) → position_cmp x y ≡ Equal → x ≡ y
unfolding position_cmp
same_position x y h =
    let a = then_equal (nat_cmp x.priority y.priority) _ h in
    let b = then_equal (nat_cmp x.line y.line) _ a.1 in
    let c = then_equal (slice_cmp nat_cmp x.pattern y.pattern) (slice_cmp nat_cmp x.key y.key) b.1 in
    let p : x.priority ≡ y.priority = finite.nat_cmp-IsAntisymmetric x.priority y.priority a.0 in
    let l : x.line ≡ y.line = finite.nat_cmp-IsAntisymmetric x.line y.line b.0 in
    let pe : x.pattern ≡ y.pattern = equal_text x.pattern y.pattern c.0 in
    let ke : x.key ≡ y.key = equal_text x.key y.key c.1 in
    λ i. record { priority = p i; line = l i; pattern = pe i; key = ke i }

regrouped : (a b c d : Ordering) → ordering_then (ordering_then (ordering_then a b) c) d ≡ ordering_then a (ordering_then b (ordering_then c d))
regrouped Less b c d = refl
regrouped Equal Less c d = refl
regrouped Equal Equal c d = refl
regrouped Equal Greater c d = refl
regrouped Greater b c d = refl

-- the order of places
abbrev pub place_order : Place → Place → Ordering
place_order p q = ordering_then (ordering_then (ordering_then (nat_cmp p.0 q.0) (nat_cmp p.1 q.1)) (text_cmp p.2.value.items q.2.value.items)) (text_cmp p.3.now q.3.now)

place_is : (p q : Place) (c d : HitValue) → place_order p q ≡ assignment_cmp (assignment_at_place (p, c)) (assignment_at_place (q, d))
unfolding assignment_cmp position_cmp
place_is p q c d = regrouped (nat_cmp p.0 q.0) (nat_cmp p.1 q.1) (text_cmp p.2.value.items q.2.value.items) (text_cmp p.3.now q.3.now)

-- if two places tie, either makes one assignment of what it has
tied : (p q : Place) (c d : HitValue) → assignment_cmp (assignment_at_place (p, c)) (assignment_at_place (q, d)) ≡ Equal → assignment_at_place (q, c) ≡ assignment_at_place (p, c)
unfolding assignment_cmp
tied p q c d e =
    let same = same_position (assignment_at_place (p, c)).position (assignment_at_place (q, d)).position e in
    λ i. record { position = sym same i; value = c.value.now; path = c.path.now }

inserted : (es : List (Place × HitValue)) (p : Place) (c : HitValue) → map assignment_at_place (insert_entry place_order es p c) ≡ set (assignment_at_place (p, c)) (map assignment_at_place es)
unfolding set
inserted [] p c = refl
inserted (e ∷ es) p c =
    let x = assignment_at_place (p, c) in
    let y = assignment_at_place e in
    let ys = map assignment_at_place es in
    let again : map assignment_at_place (insert_entry place_order es p c) ≡ set x ys = inserted es p c in
    ap (λ o. map assignment_at_place (match_ordering o ((p, c) ∷ e ∷ es) ((e.0, c) ∷ es) (e ∷ insert_entry place_order es p c))) (place_is p e.0 c e.1)
    ∙ elim (assignment_cmp x y) as (λ o. assignment_cmp x y ≡ o → map assignment_at_place (match_ordering o ((p, c) ∷ e ∷ es) ((e.0, c) ∷ es) (e ∷ insert_entry place_order es p c))
    ≡ match_ordering o (x ∷ y ∷ ys) (x ∷ ys) (y ∷ set x ys)) [
      | Less ↦ λ t. refl
      | Equal ↦ λ t. ap (λ z. z ∷ ys) (tied p e.0 c e.1 t)
      | Greater ↦ λ t. ap (λ l. y ∷ l) again
    ] refl

-- one value is offered
pub all_offered : (a b : AllHits) (pattern : List ℕ) (key : List ℕ) (s : Shown) (p : Place) (c : HitValue) → s.key ≡ Some key
    → b.hits.entries ≡ insert_entry place_order a.hits.entries p c → assignment_at_place (p, c) ≡ record { position = record { priority = s.priority; line = s.line; pattern = pattern; key = key }; value = s.value; path = s.path }
    → AllCollects a (assignment_shown pattern s) b
unfolding assignment_shown AllCollects set_all
all_offered a b pattern key s p c some is same =
    subst (λ o. all_shown b ≡ set_all (one_assignment pattern s o) (all_shown a)) (sym some)
    (ap (λ es. map assignment_at_place es) is ∙ inserted a.hits.entries p c ∙ ap (λ x. set x (all_shown a)) same)

-- one answer is taken
pub all_taken : (a b : AllHits) (p : Place) (c : HitValue) (x : Assignment) → b.hits.entries ≡ insert_entry place_order a.hits.entries p c → assignment_at_place (p, c) ≡ x → AllCollects a (x ∷ []) b
unfolding AllCollects set_all
all_taken a b p c x is same = ap (λ es. map assignment_at_place es) is ∙ inserted a.hits.entries p c ∙ ap (λ y. set y (all_shown a)) same

-- ---- all at the end

set_is_put : (x : Assignment) (l : List Assignment) → ((y : Assignment) → Among y l → assignment_cmp x y ≡ Equal → x ≡ y) → set x l ≡ put assignment_cmp x l
unfolding set put Among
set_is_put x [] free = refl
set_is_put x (y ∷ ys) free =
    let again : set x ys ≡ put assignment_cmp x ys = set_is_put x ys (λ z m. free z (inr m)) in
    elim (assignment_cmp x y) as (λ o. assignment_cmp x y ≡ o → match_ordering o (x ∷ y ∷ ys) (x ∷ ys) (y ∷ set x ys) ≡ match_ordering o (x ∷ y ∷ ys) (y ∷ ys) (y ∷ put assignment_cmp x ys)) [
      | Less ↦ λ e. refl
      | Equal ↦ λ e. ap (λ z. z ∷ ys) (free y (inl refl) e)
      | Greater ↦ λ e. ap (λ l. y ∷ l) again
    ] refl

abbrev IsSingle : List Assignment → Type 0
IsSingle xs = (x y : Assignment) → Among x xs → Among y xs → assignment_cmp x y ≡ Equal → x ≡ y

sets_are_puts : (xs l : List Assignment) → ((x y : Assignment) → Among x xs → Among y l → assignment_cmp x y ≡ Equal → x ≡ y) → IsSingle xs → set_all xs l ≡ put_all assignment_cmp xs l
unfolding set_all put_all Among
sets_are_puts [] l free single = refl
sets_are_puts (x ∷ xs) l free single =
    ap (set_all xs) (set_is_put x l (λ y m e. free x y (inl refl) m e))
    ∙ sets_are_puts xs (put assignment_cmp x l)
    (λ a y ma my t. elim (put_sound y x l my) [
      | inl e ↦ single a x (inr ma) (inl refl) (ap (assignment_cmp a) e ∙ t) ∙ e
      | inr k ↦ free a y (inr ma) k t
    ])
    (λ a y ma my. single a y (inr ma) (inr my))

wanted_single : (device : List ℕ) (t : Tree) → IsTree t → IsSingle (filter (is_wanted device) (members_under [] t))
wanted_single device t tree x y mx my e =
    let all = members_under [] t in
    members_single (values_under [] t) (under_distinct [] t tree) x y (filter_sound x (is_wanted device) all mx).0 (filter_sound y (is_wanted device) all my).0 e

-- all that match, from nothing on, are in order
pub all_in_order : (a b : AllHits) (device : List ℕ) (t : Tree) → IsTree t → a.hits.entries ≡ [] → AllCollects a (filter (is_wanted device) (members_under [] t)) b
    → all_shown b ≡ in_order assignment_cmp (filter (is_wanted device) (members_under [] t))
unfolding AllCollects
all_in_order a b device t tree none taken =
    let xs = filter (is_wanted device) (members_under [] t) in
    taken ∙ ap (λ es. set_all xs (map assignment_at_place es)) none ∙ sets_are_puts xs [] (λ x y mx my e. absurd (in_none y my)) (wanted_single device t tree)
