-- The last hit of each key, as hits are put in their places one after another.
use Rattle.std.proofs.Common.{◌≡◌, ◌∙◌, ap, sym, refl, subst, ℕ, true, false, List, [], ◌∷◌, ◌++◌, map, reverse, Option, Some, None, cond, option_map, append_assoc}
use Rattle.std.specs.Prelude.{find}
use Rattle.std.specs.List.{AllByRecursion}
use Rattle.std.specs.List.Sorted.{IsStrictlySortedBy}
use Rattle.std.specs.Borrow.{Bor}
use Rattle.std.specs.Map.{keys_of, lookup}
use Rattle.std.specs.BTreeMap.{BTreeMap, get_by, is_at, insert_entry, IsOrdered}
use Rattle.std.specs.declared.cmp.Ordering.TheVariants.{Less, Equal, Greater}
use Rattle.std.specs.Ordering.{match_ordering, eq_by_cmp, is_eq, is_lt, nat_cmp, ordering_reverse}
use Rattle.std.specs.Cmp.Lexicographic.{slice_cmp}
use Rattle.std.proofs.lemmas.Cmp.{nat_list_cmp_total, tied_itself, alike_right, eq_by_cmp_equiv}
use Rattle.std.proofs.lemmas.List.{reverse-append, append-nil}
use Rattle.std.proofs.lemmas.Map.{lookup-none}
use Rattle.std.proofs.lemmas.Map.Keys.{IsDistinct-from_sorted}
use Rattle.std.proofs.lemmas.Map.Entries.{lookup_head, lookup_tail, none_past_head, none_below_head}
use Rattle.hwdb_spec.specs.Assignment.{put, in_order, Assignment, position_cmp, assignment_cmp, text_cmp}
use Rattle.std.specs.List.Sorted.{IsStrictlySortedBy}
use Rattle.hwdb_spec.specs.Answers.{is_after, key_of_answer, has_key, last_value, effective_of}
use Rattle.hwdb_query.specs.Views.{pair_bytes, pairs_bytes}
use Rattle.hwdb_query.specs.Internal.Pairs.{put_values}
use Rattle.hwdb_query.specs.Internal.Collected.{Told, told, told_last, told_at, position_at, last_with, Shows}
use Rattle.hwdb_query.specs.declared.last_hits.Last.{Last}
use Rattle.hwdb_query.proofs.PutLemmas.{ascends_all, all_above, above_of}
use Rattle.hwdb_query.proofs.KeyLemmas.{all_put, flipped}
use Rattle.hwdb_spec.specs.Lemmas.Orders.{equal_of, equal_text, then_equal}
use Rattle.hwdb_spec.specs.Lemmas.Places.{assignment_total}

-- the first of two that there is
abbrev first_some : {A : Type 0} → Option A → Option A → Option A
first_some None other = other
first_some (Some s) other = Some s

-- a hit, if it has the key
abbrev one : List ℕ → Assignment → Option Assignment
one key f = cond (has_key key f) (Some f) None

-- the last of some hits with a key, from the first on
last_at : List ℕ → List Assignment → Option Assignment
last_at key [] = None
last_at key (f ∷ more) = first_some (last_at key more) (one key f)

find_push : (key : List ℕ) (fs : List Assignment) (f : Assignment) → find (has_key key) (fs ++ f ∷ []) ≡ first_some (find (has_key key) fs) (one key f)
find_push key [] f = refl
find_push key (g ∷ fs) f =
    let again = find_push key fs f in
    elim (has_key key g) as (λ b. cond b (Some g) (find (has_key key) (fs ++ f ∷ [])) ≡ first_some (cond b (Some g) (find (has_key key) fs)) (one key f)) [
      | true ↦ refl
      | false ↦ again
    ]

with_is_at : (key : List ℕ) (l : List Assignment) → last_with key l ≡ last_at key l
unfolding last_at
with_is_at key [] = refl
with_is_at key (f ∷ more) =
    ap (find (has_key key)) (reverse-append (f ∷ []) more) ∙ find_push key (reverse more) f ∙ ap (λ o. first_some o (one key f)) (with_is_at key more)

-- what holds of all holds of the last with a key
of_last : (P : Assignment → Type 0) (key : List ℕ) (l : List Assignment) (z : Assignment) → AllByRecursion P l → last_at key l ≡ Some z → P z
unfolding last_at
of_last P key [] z all e = cc
of_last P key (f ∷ more) z all e =
    let again : last_at key more ≡ Some z → P z = of_last P key more z all.1 in
    let here : P f = all.0 in
    elim (last_at key more) as (λ o. last_at key more ≡ o → first_some o (one key f) ≡ Some z → P z) [
      | Some y ↦ λ d k. again (d ∙ k)
      | None ↦ λ d k. elim (has_key key f) as (λ b. cond b (Some f) None ≡ Some z → P z) [
        | true ↦ λ q. let is : f ≡ z = cc in subst P is here
        | false ↦ λ q. cc
      ] k
    ] refl e

-- the last of a key when one more hit has come
abbrev newer : List ℕ → Assignment → Option Assignment → Option Assignment
newer key x o = cond (has_key key x) (cond (is_after (option_map (λ (t : Told). t.0) (option_map told o)) x.position) (Some x) o) o

is_newer : (key : List ℕ) (x : Assignment) → newer key x None ≡ one key x
unfolding is_after
is_newer key x = refl

-- a hit that isn't below another replaces nothing
stays : (key : List ℕ) (x z : Assignment) → is_lt (assignment_cmp z x) ≡ false → newer key x (Some z) ≡ Some z
unfolding is_after assignment_cmp
stays key x z h =
    elim (has_key key x) as (λ b. cond b (cond (is_lt (position_cmp z.position x.position)) (Some x) (Some z)) (Some z) ≡ Some z) [
      | true ↦ ap (λ b. cond b (Some x) (Some z)) h
      | false ↦ refl
    ]

replaces : (key : List ℕ) (x y : Assignment) → assignment_cmp y x ≡ Less → first_some (one key x) (one key y) ≡ newer key x (one key y)
unfolding is_after assignment_cmp
replaces key x y h =
    elim (has_key key x) as (λ b. first_some (cond b (Some x) None) (one key y)
    ≡ cond b (cond (is_after (option_map (λ (t : Told). t.0) (option_map told (one key y))) x.position) (Some x) (one key y)) (one key y)) [
      | true ↦ elim (has_key key y) as (λ c. Some x ≡ cond (is_after (option_map (λ (t : Told). t.0) (option_map told (cond c (Some y) None))) x.position) (Some x) (cond c (Some y) None)) [
        | true ↦ sym (ap (λ o. cond (is_lt o) (Some x) (Some y)) h)
        | false ↦ refl
      ]
      | false ↦ refl
    ]

some_newer : (key : List ℕ) (x z : Assignment) (o : Option Assignment) → first_some (newer key x (Some z)) o ≡ newer key x (Some z)
unfolding is_after
some_newer key x z o =
    elim (has_key key x) as (λ b. first_some (cond b (cond (is_lt (position_cmp z.position x.position)) (Some x) (Some z)) (Some z)) o ≡ cond b (cond (is_lt (position_cmp z.position x.position)) (Some x) (Some z)) (Some z)) [
      | true ↦ elim (is_lt (position_cmp z.position x.position)) as (λ b. first_some (cond b (Some x) (Some z)) o ≡ cond b (Some x) (Some z)) [ true ↦ refl | false ↦ refl ]
      | false ↦ refl
    ]

greater_not : (x z : Assignment) → assignment_cmp x z ≡ Less → is_lt (assignment_cmp z x) ≡ false
greater_not x z h = ap is_lt (assignment_total.antisymm z x ∙ ap ordering_reverse h)

none_below : (x : Assignment) (l : List Assignment) → AllByRecursion (λ z. assignment_cmp x z ≡ Less) l → AllByRecursion (λ z. is_lt (assignment_cmp z x) ≡ false) l
none_below x [] all = tt
none_below x (z ∷ l) all = (greater_not x z all.0, none_below x l all.1)

-- none of the hits is below: the last of them with a key stays
all_stay : (key : List ℕ) (x : Assignment) (l : List Assignment) (o : Option Assignment) → AllByRecursion (λ z. is_lt (assignment_cmp z x) ≡ false) l → last_at key l ≡ o
    → (o ≡ None → one key x ≡ None) → o ≡ newer key x o
all_stay key x l None all e none = sym (is_newer key x ∙ none refl)
all_stay key x l (Some z) all e none = sym (stays key x z (of_last (λ z. is_lt (assignment_cmp z x) ≡ false) key l z all e))

same_key_of : (x y : Assignment) → assignment_cmp x y ≡ Equal → x.position.key ≡ y.position.key
unfolding assignment_cmp position_cmp
same_key_of x y h =
    let a = then_equal (nat_cmp x.position.priority y.position.priority) _ h in
    let b = then_equal (nat_cmp x.position.line y.position.line) _ a.1 in
    let c = then_equal (slice_cmp nat_cmp x.position.pattern y.position.pattern) (slice_cmp nat_cmp x.position.key y.position.key) b.1 in
    equal_text x.position.key y.position.key c.1

-- if the first has the key, there is a last one
some_there : (key : List ℕ) (x y : Assignment) (ys : List Assignment) → assignment_cmp x y ≡ Equal → last_at key (y ∷ ys) ≡ None → one key x ≡ None
unfolding last_at
some_there key x y ys h none =
    elim (last_at key ys) as (λ o. first_some o (one key y) ≡ None → one key x ≡ None) [
      | Some z ↦ λ k. cc
      | None ↦ λ k. elim (has_key key y) as (λ b. has_key key y ≡ b → cond b (Some y) None ≡ None → one key x ≡ None) [
        | true ↦ λ e q. cc
        | false ↦ λ e q. ap (λ b. cond b (Some x) None) (ap (λ k. is_eq (text_cmp key k)) (same_key_of x y h) ∙ e)
      ] refl k
    ] none

-- what is above a hit is above those that tie with it
alike : (x y : Assignment) (ys : List Assignment) → assignment_cmp x y ≡ Equal → AllByRecursion (λ z. assignment_cmp y z ≡ Less) ys → AllByRecursion (λ z. assignment_cmp x z ≡ Less) ys
alike x y [] e all = tt
alike x y (z ∷ zs) e all = (same z ∙ all.0, alike x y zs e all.1)
  where
    same : (z : Assignment) → assignment_cmp x z ≡ assignment_cmp y z
    same z = assignment_total.antisymm x z ∙ ap ordering_reverse (alike_right assignment_total x y z e) ∙ sym (assignment_total.antisymm y z)

-- one more hit in its place
last_put : (key : List ℕ) (x : Assignment) (l : List Assignment) → IsStrictlySortedBy assignment_cmp l → last_at key (put assignment_cmp x l) ≡ newer key x (last_at key l)
unfolding put IsStrictlySortedBy last_at
last_put key x [] up = sym (is_newer key x)
last_put key x (y ∷ ys) up =
    let again : last_at key (put assignment_cmp x ys) ≡ newer key x (last_at key ys) = last_put key x ys up.1 in
    let least = up.0 in
    elim (assignment_cmp x y) as (λ o. assignment_cmp x y ≡ o → last_at key (match_ordering o (x ∷ y ∷ ys) (y ∷ ys) (y ∷ put assignment_cmp x ys)) ≡ newer key x (last_at key (y ∷ ys))) [
      | Less ↦ λ e.
          let below : AllByRecursion (λ z. is_lt (assignment_cmp z x) ≡ false) (y ∷ ys) = none_below x (y ∷ ys) (e, all_above assignment_cmp assignment_total x y ys e least) in
          elim (last_at key (y ∷ ys)) as (λ o. last_at key (y ∷ ys) ≡ o → first_some o (one key x) ≡ newer key x o) [
            | None ↦ λ d. sym (is_newer key x)
            | Some z ↦ λ d. sym (stays key x z (of_last (λ z. is_lt (assignment_cmp z x) ≡ false) key (y ∷ ys) z below d))
          ] refl
      | Equal ↦ λ e.
          let tied : assignment_cmp y x ≡ Equal = assignment_total.antisymm y x ∙ ap ordering_reverse e in
          let above : AllByRecursion (λ z. assignment_cmp x z ≡ Less) ys = alike x y ys e least in
          all_stay key x (y ∷ ys) (last_at key (y ∷ ys)) (ap is_lt tied, none_below x ys above) refl (some_there key x y ys e)
      | Greater ↦ λ e.
          let less : assignment_cmp y x ≡ Less = above_of assignment_cmp assignment_total x y e in
          ap (λ o. first_some o (one key y)) again
          ∙ elim (last_at key ys) as (λ o. first_some (newer key x o) (one key y) ≡ newer key x (first_some o (one key y))) [
            | None ↦ ap (λ o. first_some o (one key y)) (is_newer key x) ∙ replaces key x y less
            | Some z ↦ some_newer key x z (one key y)
          ]
    ] refl

abbrev Hits : Type 0
Hits = BTreeMap (Bor (List ℕ)) Last

with_put : (key : List ℕ) (x : Assignment) (hits : List Assignment) → IsStrictlySortedBy assignment_cmp hits → last_with key (put assignment_cmp x hits) ≡ newer key x (last_with key hits)
with_put key x hits up = with_is_at key (put assignment_cmp x hits) ∙ last_put key x hits up ∙ ap (newer key x) (sym (with_is_at key hits))

key_is : (key : List ℕ) (x : Assignment) → has_key key x ≡ true → key ≡ x.position.key
key_is key x h = equal_text key x.position.key (equal_of _ h)

-- a hit that doesn't come after the one that its key has
pub left_there : (m : Hits) (hits : List Assignment) (x : Assignment) → IsStrictlySortedBy assignment_cmp hits → Shows m hits → is_after (position_at m x.position.key) x.position ≡ false → Shows m (put assignment_cmp x hits)
left_there m hits x up shows early = λ key.
    shows key ∙ ap (option_map told)
    (sym (with_put key x hits up
    ∙ elim (has_key key x) as (λ b. has_key key x ≡ b → cond b (cond (is_after (option_map (λ (t : Told). t.0) (option_map told (last_with key hits))) x.position) (Some x) (last_with key hits)) (last_with key hits) ≡ last_with key hits) [
      | true ↦ λ e. ap (λ b. cond b (Some x) (last_with key hits))
          (ap (λ (o : Option Told). is_after (option_map (λ (t : Told). t.0) o) x.position) (sym (shows key)) ∙ ap (λ k. is_after (position_at m k) x.position) (key_is key x e) ∙ early)
      | false ↦ λ e. refl
    ] refl))

-- a hit that its key has from now on
pub put_there : (m n : Hits) (hits : List Assignment) (x : Assignment) → IsStrictlySortedBy assignment_cmp hits → Shows m hits → is_after (position_at m x.position.key) x.position ≡ true
    → ((key : List ℕ) → told_at n key ≡ cond (has_key key x) (Some (told x)) (told_at m key)) → Shows n (put assignment_cmp x hits)
put_there m n hits x up shows late now = λ key.
    now key ∙ ap (cond (has_key key x) (Some (told x))) (shows key)
    ∙ sym (ap (option_map told) (with_put key x hits up)
    ∙ elim (has_key key x) as (λ b. has_key key x ≡ b → option_map told (cond b (cond (is_after (option_map (λ (t : Told). t.0) (option_map told (last_with key hits))) x.position) (Some x) (last_with key hits)) (last_with key hits))
    ≡ cond b (Some (told x)) (option_map told (last_with key hits))) [
      | true ↦ λ e. ap (λ b. option_map told (cond b (Some x) (last_with key hits)))
          (ap (λ (o : Option Told). is_after (option_map (λ (t : Told). t.0) o) x.position) (sym (shows key)) ∙ ap (λ k. is_after (position_at m k) x.position) (key_is key x e) ∙ late)
      | false ↦ λ e. refl
    ] refl)

-- what an insertion puts at each key
pub inserted_at : (m n : Hits) (x : Assignment) (key : Bor (List ℕ)) (last : Last) (q : List ℕ) → key.now ≡ x.position.key → told_last key.now last ≡ told x
    → get_by (λ k. text_cmp q k.now) n ≡ cond (is_eq (text_cmp key.now q)) (Some last) (get_by (λ k. text_cmp q k.now) m)
    → told_at n q ≡ cond (has_key q x) (Some (told x)) (told_at m q)
inserted_at m n x key last q at same is =
    ap (option_map (told_last q)) is
    ∙ elim (is_eq (text_cmp key.now q)) as (λ b. is_eq (text_cmp key.now q) ≡ b → option_map (told_last q) (cond b (Some last) (get_by (λ k. text_cmp q k.now) m)) ≡ cond b (Some (told x)) (told_at m q)) [
      | true ↦ λ e. ap Some (ap (λ k. told_last k last) (sym (equal_text key.now q (equal_of _ e))) ∙ same)
      | false ↦ λ e. refl
    ] refl
    ∙ ap (λ b. cond b (Some (told x)) (told_at m q)) (flipped key.now q ∙ ap (λ k. is_eq (text_cmp q k)) at)

-- ---- the list at the end

-- an entry's key and value
abbrev pub pair_of : Bor (List ℕ) × Last → List ℕ × List ℕ
pair_of e = (e.0.now, e.1.value.now)

-- one more pair is listed
pub pair_step : (before after : List (Bor (List ℕ) × Bor (List ℕ))) (rest left : List (Bor (List ℕ) × Last)) (e : Bor (List ℕ) × Last) (whole : List (List ℕ × List ℕ))
    → rest ≡ e ∷ left → after ≡ before ++ (e.0, e.1.value) ∷ [] → pairs_bytes before ++ map pair_of rest ≡ whole → pairs_bytes after ++ map pair_of left ≡ whole
pair_step before after rest left e whole cut pushed is =
    ap (λ (l : List (Bor (List ℕ) × Bor (List ℕ))). pairs_bytes l ++ map pair_of left) pushed
    ∙ ap (λ l. l ++ map pair_of left) (one_more before (e.0, e.1.value))
    ∙ append_assoc (pairs_bytes before) (pair_of e ∷ []) (map pair_of left)
    ∙ sym (ap (λ (l : List (Bor (List ℕ) × Last)). pairs_bytes before ++ map pair_of l) cut) ∙ is
  where
    one_more : (ps : List (Bor (List ℕ) × Bor (List ℕ))) (p : Bor (List ℕ) × Bor (List ℕ)) → pairs_bytes (ps ++ p ∷ []) ≡ pairs_bytes ps ++ pair_bytes p ∷ []
    one_more [] p = refl
    one_more (q ∷ ps) p = ap (λ l. pair_bytes q ∷ l) (one_more ps p)

pub pairs_over : (pairs : List (Bor (List ℕ) × Bor (List ℕ))) (rest : List (Bor (List ℕ) × Last)) (whole : List (List ℕ × List ℕ)) → rest ≡ [] → pairs_bytes pairs ++ map pair_of rest ≡ whole
    → pairs_bytes pairs ≡ whole
pairs_over pairs rest whole none is = sym (append-nil (pairs_bytes pairs)) ∙ sym (ap (λ (l : List (Bor (List ℕ) × Last)). pairs_bytes pairs ++ map pair_of l) none) ∙ is

value_told : Told → List ℕ
value_told t = t.1

lookup_pairs : (q : List ℕ) (es : List (Bor (List ℕ) × Last)) → lookup (is_at (text_cmp q)) (map pair_of es) ≡ option_map value_told (option_map (told_last q) (lookup (is_at (λ (k : Bor (List ℕ)). text_cmp q k.now)) es))
unfolding value_told
lookup_pairs q [] = refl
lookup_pairs q (e ∷ es) =
    let again = lookup_pairs q es in
    elim (is_eq (text_cmp q e.0.now)) as (λ b. cond b (Some e.1.value.now) (lookup (is_at (text_cmp q)) (map pair_of es))
    ≡ option_map value_told (option_map (told_last q) (cond b (Some e.1) (lookup (is_at (λ (k : Bor (List ℕ)). text_cmp q k.now)) es)))) [
      | true ↦ refl
      | false ↦ again
    ]

sorted_pairs : (es : List (Bor (List ℕ) × Last)) → IsStrictlySortedBy (λ (a : Bor (List ℕ)) (b : Bor (List ℕ)). text_cmp a.now b.now) (keys_of es) → IsStrictlySortedBy text_cmp (keys_of (map pair_of es))
unfolding IsStrictlySortedBy
sorted_pairs [] s = tt
sorted_pairs (e ∷ es) s = (above es s.0, sorted_pairs es s.1)
  where
    above : (es : List (Bor (List ℕ) × Last)) → AllByRecursion (λ (b : Bor (List ℕ)). text_cmp e.0.now b.now ≡ Less) (keys_of es) → AllByRecursion (λ b. text_cmp e.0.now b ≡ Less) (keys_of (map pair_of es))
    above [] all = tt
    above (f ∷ es) all = (all.0, above es all.1)

sorted_listed : (g : List ℕ → List ℕ) (keys : List (List ℕ)) → IsStrictlySortedBy text_cmp keys → IsStrictlySortedBy text_cmp (keys_of (map (λ key. (key, g key)) keys))
unfolding IsStrictlySortedBy
sorted_listed g [] up = tt
sorted_listed g (k ∷ keys) up = (above keys up.0, sorted_listed g keys up.1)
  where
    above : (keys : List (List ℕ)) → AllByRecursion (λ b. text_cmp k b ≡ Less) keys → AllByRecursion (λ b. text_cmp k b ≡ Less) (keys_of (map (λ key. (key, g key)) keys))
    above [] all = tt
    above (j ∷ keys) all = (all.0, above keys all.1)

none_ascends : let none : List (List ℕ) = [] in IsStrictlySortedBy text_cmp none
unfolding IsStrictlySortedBy
none_ascends = tt

sorted_effective : (hits : List Assignment) → IsStrictlySortedBy text_cmp (keys_of (effective_of hits))
unfolding effective_of
sorted_effective hits = sorted_listed (last_value hits) (in_order text_cmp (map key_of_answer hits)) (ascends_all text_cmp nat_list_cmp_total (map key_of_answer hits) [] none_ascends)

lookup_inserted : (q key value : List ℕ) (es : List (List ℕ × List ℕ)) → lookup (is_at (text_cmp q)) (insert_entry text_cmp es key value) ≡ cond (is_eq (text_cmp q key)) (Some value) (lookup (is_at (text_cmp q)) es)
lookup_inserted q key value [] = refl
lookup_inserted q key value (e ∷ es) =
    let again = lookup_inserted q key value es in
    let rest = lookup (is_at (text_cmp q)) es in
    elim (text_cmp key e.0) as (λ o. text_cmp key e.0 ≡ o → lookup (is_at (text_cmp q)) (match_ordering o ((key, value) ∷ e ∷ es) ((e.0, value) ∷ es) (e ∷ insert_entry text_cmp es key value))
    ≡ cond (is_eq (text_cmp q key)) (Some value) (cond (is_eq (text_cmp q e.0)) (Some e.1) rest)) [
      | Less ↦ λ d. refl
      | Equal ↦ λ d. let same : key ≡ e.0 = equal_text key e.0 d in
          ap (λ k. cond (is_eq (text_cmp q k)) (Some value) rest) (sym same)
          ∙ elim (is_eq (text_cmp q key)) as (λ b. is_eq (text_cmp q key) ≡ b → cond b (Some value) rest ≡ cond b (Some value) (cond (is_eq (text_cmp q e.0)) (Some e.1) rest)) [
            | true ↦ λ h. refl
            | false ↦ λ h. sym (ap (λ b. cond b (Some e.1) rest) (ap (λ k. is_eq (text_cmp q k)) (sym same) ∙ h))
          ] refl
      | Greater ↦ λ d.
          ap (cond (is_eq (text_cmp q e.0)) (Some e.1)) again
          ∙ elim (is_eq (text_cmp q e.0)) as (λ b. is_eq (text_cmp q e.0) ≡ b → cond b (Some e.1) (cond (is_eq (text_cmp q key)) (Some value) rest) ≡ cond (is_eq (text_cmp q key)) (Some value) (cond b (Some e.1) rest)) [
            | true ↦ λ h. sym (ap (λ b. cond b (Some value) (Some e.1)) (apart h d))
            | false ↦ λ h. refl
          ] refl
    ] refl
  where
    apart : is_eq (text_cmp q e.0) ≡ true → text_cmp key e.0 ≡ Greater → is_eq (text_cmp q key) ≡ false
    apart h d = let same : q ≡ e.0 = equal_text q e.0 (equal_of _ h) in
        ap is_eq (ap (λ k. text_cmp k key) same ∙ nat_list_cmp_total.antisymm e.0 key ∙ ap ordering_reverse d)

value_found : Assignment → List ℕ
value_found f = f.value

lookup_put : (q : List ℕ) (l : List Assignment) (es : List (List ℕ × List ℕ)) → lookup (is_at (text_cmp q)) (put_values es l) ≡ first_some (option_map value_found (last_at q l)) (lookup (is_at (text_cmp q)) es)
unfolding put_values last_at value_found
lookup_put q [] es = refl
lookup_put q (f ∷ more) es =
    lookup_put q more (insert_entry text_cmp es f.position.key f.value)
    ∙ ap (first_some (option_map value_found (last_at q more))) (lookup_inserted q f.position.key f.value es)
    ∙ elim (last_at q more) as (λ o. first_some (option_map value_found o) (cond (has_key q f) (Some f.value) (lookup (is_at (text_cmp q)) es))
    ≡ first_some (option_map value_found (first_some o (one q f))) (lookup (is_at (text_cmp q)) es)) [
      | Some z ↦ refl
      | None ↦ elim (has_key q f) as (λ b. cond b (Some f.value) (lookup (is_at (text_cmp q)) es) ≡ first_some (option_map value_found (cond b (Some f) None)) (lookup (is_at (text_cmp q)) es)) [ true ↦ refl | false ↦ refl ]
    ]

first_or_none : {A : Type 0} (o : Option A) → first_some o None ≡ o
first_or_none None = refl
first_or_none (Some a) = refl

values_same : (o : Option Assignment) → option_map value_told (option_map told o) ≡ option_map value_found o
unfolding value_told value_found
values_same None = refl
values_same (Some f) = refl

-- ---- lists of entries, ascending by key, with equal values at each key

abbrev Entries : Type 0
Entries = List (List ℕ × List ℕ)

abbrev value_at : List ℕ → Entries → Option (List ℕ)
value_at q es = lookup (is_at (text_cmp q)) es

abbrev Sorted : Entries → Type 0
Sorted es = IsStrictlySortedBy text_cmp (keys_of es)

at_head : (e : List ℕ × List ℕ) (es : Entries) → value_at e.0 (e ∷ es) ≡ Some e.1
at_head e es = lookup_head (is_at (text_cmp e.0)) e es (ap is_eq (tied_itself nat_list_cmp_total e.0))

sorted_behind : (e : List ℕ × List ℕ) (es : Entries) → Sorted (e ∷ es) → Sorted es
unfolding IsStrictlySortedBy
sorted_behind e es s = s.1

never : {A : Type 0} (v : A) → Some v ≡ None → ⊥
never v h = cc

one_head : (e f : List ℕ × List ℕ) (es fs : Entries) → Sorted (e ∷ es) → Sorted (f ∷ fs) → ((q : List ℕ) → value_at q (e ∷ es) ≡ value_at q (f ∷ fs)) → e.0 ≡ f.0
one_head e f es fs s t same =
    elim (text_cmp e.0 f.0) as (λ o. text_cmp e.0 f.0 ≡ o → e.0 ≡ f.0) [
      | Less ↦ λ d. absurd (never e.1 (sym (at_head e es) ∙ same e.0 ∙ lookup-none _ (f ∷ fs) (none_below_head nat_list_cmp_total e.0 f fs t d)))
      | Equal ↦ λ d. equal_text e.0 f.0 d
      | Greater ↦ λ d. absurd (never f.1 (sym (at_head f fs) ∙ sym (same f.0) ∙ lookup-none _ (e ∷ es) (none_below_head nat_list_cmp_total f.0 e es s (nat_list_cmp_total.antisymm f.0 e.0 ∙ ap ordering_reverse d))))
    ] refl

none_behind : (q : List ℕ) (e : List ℕ × List ℕ) (es : Entries) → Sorted (e ∷ es) → eq_by_cmp text_cmp q e.0 ≡ true → value_at q es ≡ None
none_behind q e es s h = lookup-none (is_at (text_cmp q)) es (none_past_head (eq_by_cmp_equiv nat_list_cmp_total) q e es (IsDistinct-from_sorted text_cmp _ s) h)

same_behind : (e f : List ℕ × List ℕ) (es fs : Entries) → Sorted (e ∷ es) → Sorted (f ∷ fs) → e.0 ≡ f.0 → (q : List ℕ) → value_at q (e ∷ es) ≡ value_at q (f ∷ fs) → value_at q es ≡ value_at q fs
same_behind e f es fs s t head q same =
    elim (is_eq (text_cmp q e.0)) as (λ b. is_eq (text_cmp q e.0) ≡ b → value_at q es ≡ value_at q fs) [
      | true ↦ λ h. none_behind q e es s h ∙ sym (none_behind q f fs t (ap (λ k. is_eq (text_cmp q k)) (sym head) ∙ h))
      | false ↦ λ h. sym (lookup_tail (is_at (text_cmp q)) e es h) ∙ same ∙ lookup_tail (is_at (text_cmp q)) f fs (ap (λ k. is_eq (text_cmp q k)) (sym head) ∙ h)
    ] refl

some_same : {A : Type 0} (a b : A) → Some a ≡ Some b → a ≡ b
some_same a b h = cc

same_entries : (es fs : Entries) → Sorted es → Sorted fs → ((q : List ℕ) → value_at q es ≡ value_at q fs) → es ≡ fs
same_entries [] [] s t same = refl
same_entries [] (f ∷ fs) s t same = absurd (never f.1 (sym (at_head f fs) ∙ sym (same f.0)))
same_entries (e ∷ es) [] s t same = absurd (never e.1 (sym (at_head e es) ∙ same e.0))
same_entries (e ∷ es) (f ∷ fs) s t same =
    let head : e.0 ≡ f.0 = one_head e f es fs s t same in
    let value : e.1 ≡ f.1 = some_same e.1 f.1 (sym (at_head e es) ∙ same e.0 ∙ ap (λ k. value_at k (f ∷ fs)) head ∙ at_head f fs) in
    let rest : es ≡ fs = same_entries es fs (sorted_behind e es s) (sorted_behind f fs t) (λ q. same_behind e f es fs s t head q (same q)) in
    λ i. (head i, value i) ∷ rest i

-- the pairs of a map that shows hits are the effective list of the hits
pub pairs_are : (m : Hits) (hits : List Assignment) → IsOrdered (λ (a : Bor (List ℕ)) (b : Bor (List ℕ)). text_cmp a.now b.now) m → Shows m hits → map pair_of m.entries ≡ effective_of hits
pairs_are m hits ordered shows =
    same_entries (map pair_of m.entries) (effective_of hits) (sorted_pairs m.entries ordered) (sorted_effective hits)
    (λ q. lookup_pairs q m.entries ∙ ap (option_map value_told) (shows q) ∙ values_same (last_with q hits) ∙ ap (option_map value_found) (with_is_at q hits)
    ∙ sym (ap (lookup (is_at (text_cmp q))) (sym (all_put hits)) ∙ lookup_put q hits [] ∙ first_or_none (option_map value_found (last_at q hits))))

-- an empty map shows no hits
pub shows_none : (m : Hits) → m.entries ≡ [] → Shows m []
shows_none m none = λ key. ap (λ (es : List (Bor (List ℕ) × Last)). option_map (told_last key) (lookup (is_at (λ (k : Bor (List ℕ)). text_cmp key k.now)) es)) none
