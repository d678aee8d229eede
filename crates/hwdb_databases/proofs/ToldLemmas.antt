-- What a device is told of the text of a dump.
use Rattle.std.proofs.Common.{◌≡◌, ◌∙◌, ◌||◌, ap, sym, refl, ℕ, Bool, true, false, List, [], ◌∷◌, ◌++◌, map, reverse, filter, find, cond, None, Some, if◌then◌else◌, T, flat_map, inl, inr}
use Rattle.std.proofs.lemmas.List.{reverse-append, append-nil}
use Rattle.std.specs.FinMap.Entries.{is_sorted, below_all}
use Rattle.std.specs.List.{AllByRecursion, IsDistinct, list_any}
use Rattle.std.specs.List.Sorted.{IsStrictlySortedBy}
use Rattle.std.specs.Cmp.{IsTotalOrder}
use Rattle.std.specs.Ordering.{is_eq, is_lt, eq_by_cmp}
use Rattle.std.specs.declared.cmp.Ordering.{Ordering}
use Rattle.std.specs.declared.cmp.Ordering.TheVariants.{Less, Equal}
use Rattle.std.proofs.lemmas.Cmp.{on_total, tied_itself}
use Rattle.std.proofs.lemmas.List.Kept.{IsStrictlySortedBy-filter}
use Rattle.hwdb_spec.specs.Answers.{is_match, is_wanted, is_same_place, last_of_each, last_matching, last_assignments, key_of_answer, has_key, value_or_none, last_value, effective_of}
use Rattle.hwdb_spec.specs.Assignment.{Assignment, assignment_cmp, text_cmp, in_order, ascending, put}
use Rattle.hwdb_spec_commands.specs.Dump.{dumped, dump_text, first_unsaid}
use Rattle.hwdb_spec.specs.Folders.{same, path_of, chosen_of, contents, first_of, file_assignments, all_assignments}
use Rattle.hwdb_spec.specs.Records.{Origin, assignments}
use Rattle.hwdb_spec.specs.Texts.{properties_text, query_text, last_values_text}
use Rattle.hwdb_spec_commands.specs.LoneFile.{lone, lone_choice}
use Rattle.hwdb_spec.specs.Tree.{Tree, IsTree, members_under, place_cmp, entry_of, answers}
use Rattle.hwdb_databases.proofs.OrderLemmas.{members_sorted, and_first, and_second}
use Rattle.hwdb_databases.proofs.OrderedLemmas.{distinct, less_apart}
use Rattle.hwdb_databases.proofs.PlacedLemmas.{Placed, placed}
use Rattle.hwdb_databases.specs.Laws.{said_of}
use Rattle.hwdb_databases.proofs.ReadLemmas.{if_both}
use Rattle.hwdb_text.specs.Lemmas.Members.{Holds, distinct_single, in_order_from, in_order_rises, kept_in_order, not_above_itself, ordered_again}
use Rattle.hwdb_spec.specs.Lemmas.Orders.{same_text}
use Rattle.hwdb_spec.specs.Lemmas.Places.{all_behind, assignment_total, place_total}

-- ---- assignments without a place in common

abbrev Apart : List Assignment → Type 0
Apart [] = Unit {0}
Apart (x ∷ xs) = AllByRecursion (λ y. is_same_place x y ≡ false) xs × Apart xs

none_passes : (p : Assignment → Bool) (xs : List Assignment) → AllByRecursion (λ y. p y ≡ false) xs → list_any p xs ≡ false
none_passes p [] a = refl
none_passes p (x ∷ xs) a = ap (λ (b : Bool). b || list_any p xs) a.0 ∙ none_passes p xs a.1

-- each of them is the last with its place
pub last_apart : (xs : List Assignment) → Apart xs → last_of_each xs ≡ xs
unfolding last_of_each
last_apart [] a = refl
last_apart (x ∷ xs) a =
    ap (λ (b : Bool). if b then last_of_each xs else x ∷ last_of_each xs) (none_passes (is_same_place x) xs a.0) ∙ ap (λ l. x ∷ l) (last_apart xs a.1)

abbrev Said : Type 0
Said = List ℕ × (List ℕ × List ℕ)

abbrev same_place_said : Said → Said → Bool
same_place_said s t = if same s.0 t.0 then same s.1.0 t.1.0 else false

first_said : (x y : Assignment) (xs ys : List Assignment) → map said_of (x ∷ xs) ≡ map said_of (y ∷ ys) → said_of x ≡ said_of y
first_said x y xs ys h = cc

rest_said : (x y : Assignment) (xs ys : List Assignment) → map said_of (x ∷ xs) ≡ map said_of (y ∷ ys) → map said_of xs ≡ map said_of ys
rest_said x y xs ys h = cc

apart_from : (x y : Assignment) → said_of x ≡ said_of y → (xs ys : List Assignment) → map said_of xs ≡ map said_of ys
    → AllByRecursion (λ z. is_same_place y z ≡ false) ys → AllByRecursion (λ z. is_same_place x z ≡ false) xs
apart_from x y e [] ys h a = tt
apart_from x y e (z ∷ xs) [] h a = cc
apart_from x y e (z ∷ xs) (w ∷ ys) h a =
    let next = first_said z w xs ys h in (
      ap (λ (g : Said × Said). same_place_said g.0 g.1) (λ i. (e i, next i)) ∙ a.0,
      apart_from x y e xs ys (rest_said z w xs ys h) a.1,
    )

apart_said : (xs ys : List Assignment) → map said_of xs ≡ map said_of ys → Apart ys → Apart xs
apart_said [] ys h a = tt
apart_said (x ∷ xs) [] h a = cc
apart_said (x ∷ xs) (y ∷ ys) h a =
    let rest = rest_said x y xs ys h in (
      apart_from x y (first_said x y xs ys h) xs ys rest a.0,
      apart_said xs ys rest a.1,
    )

abbrev by_place : Assignment → Assignment → Ordering
by_place x y = place_cmp (entry_of x).0 (entry_of y).0

by_place_total : IsTotalOrder by_place
by_place_total = on_total (λ (f : Assignment). (entry_of f).0) place_total

all_apart : (x : Assignment) (ys : List Assignment) → T (below_all place_cmp (entry_of x).0 (map entry_of ys)) → AllByRecursion (λ y. eq_by_cmp by_place x y ≡ false) ys
all_apart x [] h = tt
all_apart x (y ∷ ys) h = (
  less_apart (by_place x y) (and_first _ (below_all place_cmp (entry_of x).0 (map entry_of ys)) h),
  all_apart x ys (and_second (is_lt (by_place x y)) _ h),
)

places_distinct : (xs : List Assignment) → T (is_sorted place_cmp (map entry_of xs)) → IsDistinct (eq_by_cmp by_place) xs
unfolding IsDistinct
places_distinct [] h = tt
places_distinct (x ∷ xs) h = (
  all_apart x xs (and_first _ (is_sorted place_cmp (map entry_of xs)) h),
  places_distinct xs (and_second (below_all place_cmp (entry_of x).0 (map entry_of xs)) _ h),
)

-- two with one place tie
one_place : (x y : Assignment) → is_same_place x y ≡ true → by_place x y ≡ Equal
one_place x y h =
    let p = if_both (same x.position.pattern y.position.pattern) (same x.position.key y.position.key) h in
    let pattern = same_text x.position.pattern y.position.pattern p.0 in
    let key = same_text x.position.key y.position.key p.1 in
    ap (place_cmp (entry_of x).0) (sym (λ i. (pattern i, key i))) ∙ tied_itself place_total (entry_of x).0

module _ (all : List Assignment) (distinct_places : IsDistinct (eq_by_cmp by_place) all) where
  apart_behind : (x : Assignment) → Holds all x → (ys : List Assignment) → AllByRecursion (λ y. assignment_cmp x y ≡ Less) ys → ((u : Assignment) → Holds ys u → Holds all u)
      → AllByRecursion (λ y. is_same_place x y ≡ false) ys
  apart_behind x hx [] a from = tt
  apart_behind x hx (y ∷ ys) a from = (
    (elim (is_same_place x y) as (λ b. is_same_place x y ≡ b → is_same_place x y ≡ false) [
      | true ↦ λ e.
          let one : x ≡ y = distinct_single by_place by_place_total all distinct_places x y hx (from y (inl refl)) (one_place x y e) in
          absurd (not_above_itself assignment_cmp assignment_total x (ap (assignment_cmp x) one ∙ a.0))
      | false ↦ λ e. e
    ]) refl,
    apart_behind x hx ys a.1 (λ u h. from u (inr h)),
  )

  rising_apart : (xs : List Assignment) → IsStrictlySortedBy assignment_cmp xs → ((u : Assignment) → Holds xs u → Holds all u) → Apart xs
  unfolding IsStrictlySortedBy
  rising_apart [] up from = tt
  rising_apart (x ∷ xs) up from = (
    apart_behind x (from x (inl refl)) xs up.0 (λ u h. from u (inr h)),
    rising_apart xs up.1 (λ u h. from u (inr h)),
  )

pub dumped_apart : (t : Tree) → IsTree t → Apart (dumped t)
unfolding dumped
dumped_apart t ascends =
    rising_apart (members_under [] t) (places_distinct (members_under [] t) (members_sorted t ascends)) (in_order assignment_cmp (members_under [] t))
    (in_order_rises assignment_cmp assignment_total (members_under [] t)) (in_order_from assignment_cmp assignment_total (members_under [] t))

-- ---- what is told

wanted_said : (device : List ℕ) (xs ys : List Assignment) → map said_of xs ≡ map said_of ys → map said_of (filter (is_wanted device) xs) ≡ map said_of (filter (is_wanted device) ys)
wanted_said device [] [] h = refl
wanted_said device [] (y ∷ ys) h = cc
wanted_said device (x ∷ xs) [] h = cc
wanted_said device (x ∷ xs) (y ∷ ys) h =
    let first = first_said x y xs ys h in
    let more = wanted_said device xs ys (rest_said x y xs ys h) in
    let fx = filter (is_wanted device) xs in
    let fy = filter (is_wanted device) ys in
    ap (λ (b : Bool). map said_of (cond b (x ∷ fx) fx)) (ap (λ (s : Said). is_match device s.0) first)
    ∙ (elim (is_wanted device y) as (λ b. map said_of (cond b (x ∷ fx) fx) ≡ map said_of (cond b (y ∷ fy) fy)) [
      | true ↦ λ i. first i ∷ more i
      | false ↦ more
    ])

map_append : {X Y : Type 0} (f : X → Y) (xs ys : List X) → map f (xs ++ ys) ≡ map f xs ++ map f ys
map_append f [] ys = refl
map_append f (x ∷ xs) ys = ap (λ l. f x ∷ l) (map_append f xs ys)

map_reverse : (xs : List Assignment) → map said_of (reverse xs) ≡ reverse (map said_of xs)
map_reverse [] = refl
map_reverse (x ∷ xs) =
    ap (map said_of) (reverse-append (x ∷ []) xs) ∙ map_append said_of (reverse xs) (x ∷ [])
    ∙ ap (λ l. l ++ said_of x ∷ []) (map_reverse xs) ∙ sym (reverse-append (said_of x ∷ []) (map said_of xs))

-- the value of the first that says a key
said_value : List ℕ → List Said → List ℕ
said_value key [] = []
said_value key (s ∷ more) = cond (is_eq (text_cmp key s.1.0)) s.1.1 (said_value key more)

value_said : (key : List ℕ) (xs : List Assignment) → value_or_none (find (has_key key) xs) ≡ said_value key (map said_of xs)
unfolding said_value
value_said key [] = refl
value_said key (x ∷ xs) =
    elim (has_key key x) as (λ b. value_or_none (cond b (Some x) (find (has_key key) xs)) ≡ cond b x.value (said_value key (map said_of xs))) [
      | true ↦ refl
      | false ↦ value_said key xs
    ]

last_said : (xs : List Assignment) (key : List ℕ) → last_value xs key ≡ said_value key (reverse (map said_of xs))
unfolding last_value
last_said xs key = value_said key (reverse xs) ∙ ap (said_value key) (map_reverse xs)

keys_said : (xs : List Assignment) → map key_of_answer xs ≡ map (λ (s : Said). s.1.0) (map said_of xs)
keys_said [] = refl
keys_said (x ∷ xs) = ap (λ l. x.position.key ∷ l) (keys_said xs)

map_same : {X Y : Type 0} (f g : X → Y) → ((x : X) → f x ≡ g x) → (xs : List X) → map f xs ≡ map g xs
map_same f g h [] = refl
map_same f g h (x ∷ xs) = λ i. h x i ∷ map_same f g h xs i

-- if as much is said, as much is told
told_said : (xs ys : List Assignment) → map said_of xs ≡ map said_of ys → effective_of xs ≡ effective_of ys
unfolding effective_of
told_said xs ys h =
    let keys : map key_of_answer xs ≡ map key_of_answer ys = keys_said xs ∙ ap (map (λ (s : Said). s.1.0)) h ∙ sym (keys_said ys) in
    ap (λ k. map (λ key. (key, last_value xs key)) (in_order text_cmp k)) keys
    ∙ map_same (λ key. (key, last_value xs key)) (λ key. (key, last_value ys key))
    (λ key. ap (λ v. (key, v)) (last_said xs key ∙ ap (λ l. said_value key (reverse l)) h ∙ sym (last_said ys key)))
    (in_order text_cmp (map key_of_answer ys))

-- of assignments that rise, without a place in common
pub last_are : (device : List ℕ) (xs : List Assignment) → IsStrictlySortedBy assignment_cmp xs → Apart xs → last_assignments device None xs ≡ filter (is_wanted device) xs
unfolding last_assignments last_matching
last_are device xs up apart =
    all_behind (in_order assignment_cmp (filter (is_wanted device) (last_of_each xs)))
    ∙ ap (λ l. in_order assignment_cmp (filter (is_wanted device) l)) (last_apart xs apart)
    ∙ ordered_again assignment_cmp assignment_total (filter (is_wanted device) xs) (IsStrictlySortedBy-filter assignment_cmp (is_wanted device) xs up)

pub answers_are : (device : List ℕ) (t : Tree) → IsTree t → answers device t ≡ filter (is_wanted device) (dumped t)
unfolding answers dumped
answers_are device t ascends =
    kept_in_order assignment_cmp assignment_total (is_wanted device) (members_under [] t) (distinct (members_under [] t) (members_sorted t ascends))

-- a device is told of the text what it is told of the tree
pub told_same : (t : Tree) (o : Origin) (device : List ℕ) → IsTree t → first_unsaid (dumped t) ≡ None
    → effective_of (last_assignments device None (assignments o (dump_text t))) ≡ effective_of (answers device t)
told_same t o device ascends h =
    let text : Placed o 0 (dumped t) (assignments o (dump_text t)) = placed o 0 (dumped t) h in
    let read = assignments o (dump_text t) in
    ap effective_of (last_are device read text.rises (apart_said read (dumped t) text.said (dumped_apart t ascends)))
    ∙ told_said (filter (is_wanted device) read) (filter (is_wanted device) (dumped t)) (wanted_said device read (dumped t) text.said)
    ∙ ap effective_of (sym (answers_are device t ascends))

-- ---- by `ask`

lone_choices : (bytes : List ℕ) → chosen_of (lone bytes) [] ≡ lone_choice ∷ []
unfolding ascending put
lone_choices bytes = refl

held_alone : (bytes : List ℕ) → contents (lone bytes) [] lone_choice ≡ bytes
unfolding first_of
held_alone bytes = refl

-- the origin of the file of `ask`
abbrev lone_origin : Origin
lone_origin = record { path = path_of lone_choice; priority = 1 }

lone_assigns : (bytes : List ℕ) → all_assignments (lone bytes) [] ≡ assignments lone_origin bytes
lone_assigns bytes =
    ap (flat_map (file_assignments (contents (lone bytes) []))) (lone_choices bytes)
    ∙ append-nil (file_assignments (contents (lone bytes) []) lone_choice)
    ∙ ap (assignments lone_origin) (held_alone bytes)

pub asked_same : (t : Tree) (device : List ℕ) → IsTree t → first_unsaid (dumped t) ≡ None → last_values_text device (lone (dump_text t)) [] ≡ query_text device t
asked_same t device ascends h =
    ap (λ all. properties_text (effective_of (last_assignments device None all))) (lone_assigns (dump_text t))
    ∙ ap properties_text (told_same t lone_origin device ascends h)

pub text_says : (t : Tree) (o : Origin) → first_unsaid (dumped t) ≡ None → map said_of (assignments o (dump_text t)) ≡ map said_of (dumped t)
text_says t o h = let text : Placed o 0 (dumped t) (assignments o (dump_text t)) = placed o 0 (dumped t) h in text.said
