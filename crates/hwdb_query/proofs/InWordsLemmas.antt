-- The last assignments are what the words say, and one list alone is so.
use Rattle.std.proofs.Common.{◌≡◌, ◌∙◌, ap, sym, refl, subst, Bool, true, false, ◌||◌, List, [], ◌∷◌, ◌++◌, filter, Option, Some, None, if◌then◌else◌, inl, inr}
use Rattle.std.specs.Prelude.{All, Contains}
use Rattle.std.specs.List.{list_any}
use Rattle.std.specs.Ordering.{is_lt}
use Rattle.std.specs.declared.cmp.Ordering.TheVariants.{Equal}
use Rattle.std.proofs.lemmas.List.Elements.{All-nil, All-cons, All-head, All-tail, All-weaker, All-contains, Contains-push, Contains-append_left, Contains-append_right}
use Rattle.hwdb_spec.specs.Assignment.{Assignment, Position, position_cmp, assignment_cmp, in_order}
use Rattle.hwdb_spec.specs.Patterns.{tokens}
use Rattle.hwdb_spec.specs.Answers.{is_wanted, is_after, is_behind, is_same_place, last_of_each, last_matching, last_assignments}
use Rattle.hwdb_spec.specs.Last.{HaveOnePlace, IsLast, IsBehind}
use Rattle.hwdb_pattern.specs.Laws.{MatchesIsTested}
use Rattle.hwdb_query.specs.Laws.{Among, LastAssignmentsAreLast, OneListIsLast}
use Rattle.hwdb_query.proofs.PutLemmas.{ascends_all, ascends_filter}
use Rattle.hwdb_query.proofs.MemberLemmas.{all_sound, all_has, filter_sound, filter_complete, none_ascends, in_none}
use Rattle.hwdb_query.proofs.LastLemmas.{kept_behind, single_place, same_ascending}
use Rattle.hwdb_spec.specs.Lemmas.Orders.{less_of}
use Rattle.hwdb_spec.specs.Lemmas.Places.{assignment_total, one_place, place_same}

-- a member, by recursion and by its place
among_contains : (f : Assignment) (xs : List Assignment) → Among f xs → Contains xs f
unfolding Among
among_contains f [] m = absurd m
among_contains f (x ∷ xs) m = elim m [
  | inl is ↦ subst (Contains (x ∷ xs)) is (Contains-append_left (x ∷ []) xs x (Contains-push [] x))
  | inr r ↦ Contains-append_right (x ∷ []) xs f (among_contains f xs r)
]

all_among : (xs : List Assignment) → All (λ f. Among f xs) xs
unfolding Among
all_among [] = All-nil (λ f. Among f [])
all_among (x ∷ xs) =
    All-cons (λ f. Among f (x ∷ xs)) x xs (inl refl) (All-weaker (λ f. Among f xs) (λ f. Among f (x ∷ xs)) (λ f m. inr m) xs (all_among xs))

contains_among : (f : Assignment) (xs : List Assignment) → Contains xs f → Among f xs
contains_among f xs m = All-contains (λ g. Among g xs) xs f (all_among xs) m

abbrev NoOther : Assignment → List Assignment → Type 0
NoOther a behind = All (λ b. ¬ HaveOnePlace a b) behind

none_same : (a : Assignment) (more : List Assignment) → list_any (is_same_place a) more ≡ false → NoOther a more
none_same a [] h = All-nil (λ b. ¬ HaveOnePlace a b)
none_same a (b ∷ more) h =
    elim (is_same_place a b) as (λ x. is_same_place a b ≡ x → x || list_any (is_same_place a) more ≡ false → NoOther a (b ∷ more)) [
      | true ↦ λ e k. cc
      | false ↦ λ e k. All-cons (λ c. ¬ HaveOnePlace a c) b more (λ p. let no : true ≡ false = sym (place_same a b p) ∙ e in absurd (cc)) (none_same a more k)
    ] refl h

alone : (a : Assignment) (more : List Assignment) → NoOther a more → list_any (is_same_place a) more ≡ false
alone a [] none = refl
alone a (b ∷ more) none =
    elim (is_same_place a b) as (λ x. is_same_place a b ≡ x → x || list_any (is_same_place a) more ≡ false) [
      | true ↦ λ e. absurd (All-head (λ c. ¬ HaveOnePlace a c) b more none (one_place a b e))
      | false ↦ λ e. alone a more (All-tail (λ c. ¬ HaveOnePlace a c) b more none)
    ] refl

-- the last of each place
extended : (a f : Assignment) (more : List Assignment) → IsLast more f → IsLast (a ∷ more) f
extended a f more h = record { before = a ∷ h.before; behind = h.behind; stands = ap (λ l. a ∷ l) h.stands; last = h.last }

last_in : (f : Assignment) (all : List Assignment) → Among f (last_of_each all) → IsLast all f
unfolding Among last_of_each
last_in f [] m = absurd m
last_in f (a ∷ more) m =
    let again : Among f (last_of_each more) → IsLast (a ∷ more) f = λ k. extended a f more (last_in f more k) in
    elim (list_any (is_same_place a) more) as (λ b. list_any (is_same_place a) more ≡ b → Among f (if b then last_of_each more else a ∷ last_of_each more) → IsLast (a ∷ more) f) [
      | true ↦ λ e k. again k
      | false ↦ λ e k. elim k [
        | inl is ↦ subst (IsLast (a ∷ more)) is (record { before = []; behind = more; stands = refl; last = none_same a more e })
        | inr r ↦ again r
      ]
    ] refl m

kept_at : (f : Assignment) (before behind : List Assignment) → NoOther f behind → Among f (last_of_each (before ++ f ∷ behind))
unfolding Among last_of_each
kept_at f [] behind none = subst (λ b. Among f (if b then last_of_each behind else f ∷ last_of_each behind)) (sym (alone f behind none)) (inl refl)
kept_at f (x ∷ before) behind none = kept_behind f x (before ++ f ∷ behind) (kept_at f before behind none)

in_last : (f : Assignment) (all : List Assignment) → IsLast all f → Among f (last_of_each all)
in_last f all h = subst (λ l. Among f (last_of_each l)) (sym h.stands) (kept_at f h.before h.behind h.last)

-- after a position, as a test and as a claim
behind_is : (after : Option Position) (f : Assignment) → is_behind after f ≡ true → IsBehind after f
unfolding is_after
behind_is None f h = tt
behind_is (Some p) f h = less_of (position_cmp p f.position) h

is_then_behind : (after : Option Position) (f : Assignment) → IsBehind after f → is_behind after f ≡ true
unfolding is_after
is_then_behind None f h = refl
is_then_behind (Some p) f h = ap is_lt h

pub last_assignments_are_last : MatchesIsTested → LastAssignmentsAreLast
unfolding last_matching last_assignments
last_assignments_are_last tested device after all =
    let w : Assignment → Bool = is_wanted device in
    let p : Assignment → Bool = is_behind after in
    let fs = last_of_each all in
    let xs = filter w fs in
    let ordered = in_order assignment_cmp xs in
    let single : (x y : Assignment) → Among x xs → Among y xs → assignment_cmp x y ≡ Equal → x ≡ y =
    λ x y mx my e. single_place x y all (filter_sound x w fs mx).0 (filter_sound y w fs my).0 e in
    record {
      ascends = ascends_filter assignment_cmp p ordered (ascends_all assignment_cmp assignment_total xs [] none_ascends);
      members = λ a. (
        λ m.
            let s = filter_sound a p ordered (contains_among a (filter p ordered) m) in
            elim (all_sound a xs [] s.0) [
              | inl h ↦ (let t = filter_sound a w fs h in
                  record { last = last_in a all t.0; matches = (tested (tokens a.position.pattern) device).0 t.1; behind = behind_is after a s.1 })
              | inr n ↦ absurd (in_none a n)
            ],
        λ h.
            let here : Among a xs = filter_complete a w fs (in_last a all h.last) ((tested (tokens a.position.pattern) device).1 h.matches) in
            let put : Among a ordered = all_has a xs [] here (λ x y mx my e. absurd (in_none y my)) single in
            among_contains a (filter p ordered) (filter_complete a p ordered put (is_then_behind after a h.behind)),
      );
    }

pub one_list_is_last : OneListIsLast
one_list_is_last device after all xs ys A B =
    same_ascending xs ys A.ascends B.ascends
    (λ f m. contains_among f ys ((B.members f).1 ((A.members f).0 (among_contains f xs m))))
    (λ f m. contains_among f xs ((A.members f).1 ((B.members f).0 (among_contains f ys m))))
