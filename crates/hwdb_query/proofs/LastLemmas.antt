-- The answers in a tree of the files' map are the last assignments.
use Rattle.std.proofs.Common.{◌≡◌, ◌∙◌, ap, sym, refl, subst, ℕ, Bool, true, false, ◌||◌, List, [], ◌∷◌, ◌++◌, map, reverse, filter, Option, Some, None, cond, if◌then◌else◌, inl, inr}
use Rattle.std.specs.Prelude.{is_some}
use Rattle.std.specs.FinMap as finite
use Rattle.std.specs.List.{AllByRecursion, list_any}
use Rattle.std.specs.Cmp.Lexicographic.{slice_cmp}
use Rattle.std.specs.Ordering.{eq_by_cmp, is_eq, nat_cmp, ordering_then}
use Rattle.std.specs.declared.cmp.Ordering.{Ordering}
use Rattle.std.specs.declared.cmp.Ordering.TheVariants.{Less, Equal, Greater}
use Rattle.std.proofs.lemmas.Cmp.{tied_itself}
use Rattle.std.proofs.lemmas.List.{reverse-append}
use Rattle.hwdb_spec.specs.Assignment.{Assignment, in_order, Position, position_cmp, assignment_cmp}
use Rattle.std.specs.List.Sorted.{IsStrictlySortedBy}
use Rattle.hwdb_spec.specs.Patterns.{tokens}
use Rattle.hwdb_pattern.specs.Laws.{MatchesIsTested}
use Rattle.hwdb_spec.specs.Tree.{Tree, IsTree, place_cmp, map_of, answers, answers_after, entry_of, surviving}
use Rattle.hwdb_spec.specs.Answers.{is_wanted, is_behind, is_same_place, last_of_each, last_matching, last_assignments}
use Rattle.hwdb_query.specs.Laws.{Among}
use Rattle.hwdb_query.proofs.PutLemmas.{ascends_all}
use Rattle.hwdb_query.proofs.MemberLemmas.{all_sound, all_has, filter_sound, filter_complete, none_ascends, in_none, are_answers}
use Rattle.hwdb_spec.specs.Lemmas.Orders.{equal_text, then_equal}
use Rattle.hwdb_spec.specs.Lemmas.Places.{assignment_total, place_total, same_place}

-- the first of two that there is
abbrev first_some : Option Assignment → Option Assignment → Option Assignment
first_some None other = other
first_some (Some s) other = Some s

-- what an assignment puts at a place
abbrev put_there : List ℕ × List ℕ → Assignment → Option Assignment
put_there p a = cond (eq_by_cmp place_cmp p (entry_of a).0) (Some (entry_of a).1) None

-- what the last of some assignments at a place puts there
last_at : List ℕ × List ℕ → List Assignment → Option Assignment
last_at p [] = None
last_at p (a ∷ more) = first_some (last_at p more) (put_there p a)

abbrev place_of : Assignment → List ℕ × List ℕ
place_of f = (f.position.pattern, f.position.key)

abbrev Entry : Type 0
Entry = (List ℕ × List ℕ) × Assignment

map_push : (xs : List Assignment) (a : Assignment) → map entry_of (xs ++ a ∷ []) ≡ map entry_of xs ++ entry_of a ∷ []
map_push [] a = refl
map_push (x ∷ xs) a = ap (λ l. entry_of x ∷ l) (map_push xs a)

find_push : (p : List ℕ × List ℕ) (es : List Entry) (e : Entry)
    → finite.find place_cmp p (es ++ e ∷ []) ≡ first_some (finite.find place_cmp p es) (cond (eq_by_cmp place_cmp p e.0) (Some e.1) None)
find_push p [] e = refl
find_push p (x ∷ es) e =
    let again = find_push p es e in
    elim (eq_by_cmp place_cmp p x.0) as (λ b. cond b (Some x.1) (finite.find place_cmp p (es ++ e ∷ []))
    ≡ first_some (cond b (Some x.1) (finite.find place_cmp p es)) (cond (eq_by_cmp place_cmp p e.0) (Some e.1) None)) [
      | true ↦ refl
      | false ↦ again
    ]

found_last : (p : List ℕ × List ℕ) (all : List Assignment) → finite.find place_cmp p (map entry_of (reverse all)) ≡ last_at p all
unfolding last_at
found_last p [] = refl
found_last p (a ∷ more) =
    ap (λ l. finite.find place_cmp p (map entry_of l)) (reverse-append (a ∷ []) more)
    ∙ ap (finite.find place_cmp p) (map_push (reverse more) a)
    ∙ find_push p (map entry_of (reverse more)) (entry_of a)
    ∙ ap (λ o. first_some o (put_there p a)) (found_last p more)

-- the map has at each place what the last assignment puts there
survives : (p : List ℕ × List ℕ) (all : List Assignment) → finite.get (surviving all) p ≡ last_at p all
survives p all = finite.get-from_entries place_total (map entry_of (reverse all)) p ∙ found_last p all

both_equal : (o q : Ordering) → (if is_eq o then is_eq q else false) ≡ is_eq (ordering_then o q)
both_equal Less q = refl
both_equal Equal q = refl
both_equal Greater q = refl

-- one more assignment at a place
one_there : (o : Option Assignment) (s : Assignment) (b : Bool) → b || is_some o ≡ is_some (first_some o (cond b (Some s) None))
one_there None s true = refl
one_there None s false = refl
one_there (Some t) s true = refl
one_there (Some t) s false = refl

-- an assignment is followed if the last one at its place is another
is_followed : (a : Assignment) (more : List Assignment) → list_any (is_same_place a) more ≡ is_some (last_at (entry_of a).0 more)
unfolding last_at
is_followed a [] = refl
is_followed a (b ∷ more) =
    ap (λ x. x || list_any (is_same_place a) more) (both_equal (slice_cmp nat_cmp a.position.pattern b.position.pattern) (slice_cmp nat_cmp a.position.key b.position.key))
    ∙ ap (λ x. eq_by_cmp place_cmp (entry_of a).0 (entry_of b).0 || x) (is_followed a more)
    ∙ one_there (last_at (entry_of a).0 more) (entry_of b).1 (eq_by_cmp place_cmp (entry_of a).0 (entry_of b).0)

no_some : (o : Option Assignment) → is_some o ≡ false → o ≡ None
no_some None h = refl
no_some (Some s) h = cc

last_sound : (f : Assignment) (all : List Assignment) → Among f (last_of_each all) → last_at (place_of f) all ≡ Some f
unfolding Among last_of_each last_at
last_sound f [] m = absurd m
last_sound f (a ∷ more) m =
    let again : Among f (last_of_each more) → last_at (place_of f) (a ∷ more) ≡ Some f =
    λ k. ap (λ o. first_some o (put_there (place_of f) a)) (last_sound f more k) in
    elim (list_any (is_same_place a) more) as (λ b. list_any (is_same_place a) more ≡ b → Among f (if b then last_of_each more else a ∷ last_of_each more)
    → last_at (place_of f) (a ∷ more) ≡ Some f) [
      | true ↦ λ e k. again k
      | false ↦ λ e k. elim k [
        | inl is ↦ subst (λ (g : Assignment). last_at (place_of g) (a ∷ more) ≡ Some g) is
            (let none : last_at (entry_of a).0 more ≡ None = no_some _ (sym (is_followed a more) ∙ e) in
            ap (λ o. first_some o (put_there (entry_of a).0 a)) none
            ∙ ap (λ o. cond (is_eq o) (Some (entry_of a).1) None) (tied_itself place_total (entry_of a).0))
        | inr r ↦ again r
      ]
    ] refl m

answer_is : (a : Assignment) (f : Assignment) → (entry_of a).0 ≡ place_of f → (entry_of a).1 ≡ f → a ≡ f
answer_is a f p v = v

-- the assignment is kept, if it is the last at its place
kept_last : (f : Assignment) (a : Assignment) (more : List Assignment) → last_at (place_of f) more ≡ None → put_there (place_of f) a ≡ Some f
    → Among f (last_of_each (a ∷ more))
unfolding Among last_of_each
kept_last f a more none put =
    elim (eq_by_cmp place_cmp (place_of f) (entry_of a).0) as (λ b. eq_by_cmp place_cmp (place_of f) (entry_of a).0 ≡ b → cond b (Some (entry_of a).1) None ≡ Some f
    → Among f (last_of_each (a ∷ more))) [
      | true ↦ λ e k.
          let at : (entry_of a).0 ≡ place_of f = sym (same_place (place_of f) (entry_of a).0 e) in
          let value : (entry_of a).1 ≡ f = cc in
          let alone : list_any (is_same_place a) more ≡ false = is_followed a more ∙ ap (λ p. is_some (last_at p more)) at ∙ ap is_some none in
          subst (λ b. Among f (if b then last_of_each more else a ∷ last_of_each more)) (sym alone) (inl (answer_is a f at value))
      | false ↦ λ e k. cc
    ] refl put

pub kept_behind : (f : Assignment) (a : Assignment) (more : List Assignment) → Among f (last_of_each more) → Among f (last_of_each (a ∷ more))
unfolding Among last_of_each
kept_behind f a more m =
    elim (list_any (is_same_place a) more) as (λ b. Among f (if b then last_of_each more else a ∷ last_of_each more)) [ true ↦ m | false ↦ inr m ]

last_complete : (f : Assignment) (all : List Assignment) → last_at (place_of f) all ≡ Some f → Among f (last_of_each all)
unfolding last_at
last_complete f [] h = cc
last_complete f (a ∷ more) h =
    let again : last_at (place_of f) more ≡ Some f → Among f (last_of_each more) = last_complete f more in
    elim (last_at (place_of f) more) as (λ o. last_at (place_of f) more ≡ o → first_some o (put_there (place_of f) a) ≡ Some f → Among f (last_of_each (a ∷ more))) [
      | None ↦ λ e k. kept_last f a more e k
      | Some s ↦ λ e k. kept_behind f a more (again (e ∙ k))
    ] refl h

-- two answers at one position have one value
same_answer : (x y : Assignment) (all : List Assignment) → last_at (place_of x) all ≡ Some x → last_at (place_of y) all ≡ Some y → assignment_cmp x y ≡ Equal → x ≡ y
unfolding assignment_cmp position_cmp
same_answer x y all hx hy h =
    let a = then_equal (nat_cmp x.position.priority y.position.priority) _ h in
    let b = then_equal (nat_cmp x.position.line y.position.line) _ a.1 in
    let c = then_equal (slice_cmp nat_cmp x.position.pattern y.position.pattern) (slice_cmp nat_cmp x.position.key y.position.key) b.1 in
    let pe : x.position.pattern ≡ y.position.pattern = equal_text x.position.pattern y.position.pattern c.0 in
    let ke : x.position.key ≡ y.position.key = equal_text x.position.key y.position.key c.1 in
    let s : Some x ≡ Some y =
    sym hx ∙ ap (λ p. last_at (p, x.position.key) all) pe ∙ ap (λ k. last_at (y.position.pattern, k) all) ke ∙ hy in
    let v : x ≡ y = cc in
    v

-- two that are the last of their places have two positions
pub single_place : (x y : Assignment) (all : List Assignment) → Among x (last_of_each all) → Among y (last_of_each all) → assignment_cmp x y ≡ Equal → x ≡ y
single_place x y all mx my h = same_answer x y all (last_sound x all mx) (last_sound y all my) h

among_all : (P : Assignment → Type 0) (f : Assignment) (xs : List Assignment) → AllByRecursion P xs → Among f xs → P f
unfolding Among
among_all P f [] all m = absurd m
among_all P f (x ∷ xs) all m = elim m [ inl is ↦ subst P is all.0 | inr r ↦ among_all P f xs all.1 r ]

never_less : (x y : Assignment) → assignment_cmp x y ≡ Less → x ≡ y → ⊥
never_less x y less is =
    let no : Equal ≡ Less = sym (tied_itself assignment_total x) ∙ ap (assignment_cmp x) is ∙ less in absurd (cc)

crossed : (x y : Assignment) → assignment_cmp x y ≡ Less → assignment_cmp y x ≡ Less → ⊥
crossed x y a b = never_less x x (assignment_total.trans x y x a b) refl

-- two ascending lists with the same members have one first member
same_first : (x y : Assignment) (xs ys : List Assignment) → IsStrictlySortedBy assignment_cmp (x ∷ xs) → IsStrictlySortedBy assignment_cmp (y ∷ ys) → Among x (y ∷ ys) → Among y (x ∷ xs) → x ≡ y
unfolding IsStrictlySortedBy Among
same_first x y xs ys up vp mx my =
    elim mx [
      | inl is ↦ sym is
      | inr r ↦ elim my [
        | inl is ↦ is
        | inr q ↦ absurd (crossed x y (among_all (λ z. assignment_cmp x z ≡ Less) y xs up.0 q) (among_all (λ z. assignment_cmp y z ≡ Less) x ys vp.0 r))
      ]
    ]

-- what comes after the first is no first one
behind_first : (x y f : Assignment) (xs ys : List Assignment) → IsStrictlySortedBy assignment_cmp (x ∷ xs) → x ≡ y → Among f xs → Among f (y ∷ ys) → Among f ys
unfolding IsStrictlySortedBy Among
behind_first x y f xs ys up is m k =
    elim k [
      | inl e ↦ absurd (never_less x f (among_all (λ z. assignment_cmp x z ≡ Less) f xs up.0 m) (is ∙ e))
      | inr r ↦ r
    ]

-- two ascending lists with the same members are equal
pub same_ascending : (xs ys : List Assignment) → IsStrictlySortedBy assignment_cmp xs → IsStrictlySortedBy assignment_cmp ys → ((f : Assignment) → Among f xs → Among f ys) → ((f : Assignment) → Among f ys → Among f xs) → xs ≡ ys
unfolding IsStrictlySortedBy Among
same_ascending [] [] up vp there back = refl
same_ascending [] (y ∷ ys) up vp there back = absurd (back y (inl refl))
same_ascending (x ∷ xs) [] up vp there back = absurd (there x (inl refl))
same_ascending (x ∷ xs) (y ∷ ys) up vp there back =
    let is : x ≡ y = same_first x y xs ys up vp (there x (inl refl)) (back y (inl refl)) in
    let rest : xs ≡ ys = same_ascending xs ys up.1 vp.1
    (λ f m. behind_first x y f xs ys up is m (there f (inr m)))
    (λ f m. behind_first y x f ys xs vp (sym is) m (back f (inr m))) in
    λ i. is i ∷ rest i

-- the answers in a tree with the map are the last assignments whose pattern matches
same_answers : MatchesIsTested → (device : List ℕ) (t : Tree) (all : List Assignment) → IsTree t → map_of t ≡ surviving all → answers device t ≡ last_matching device all
unfolding last_matching
same_answers tested device t all tree is =
    let A = are_answers tested device t tree in
    let fs = last_of_each all in
    let w : Assignment → Bool = is_wanted device in
    let at : (f : Assignment) → finite.get (map_of t) (place_of f) ≡ last_at (place_of f) all = λ f. ap (λ m. finite.get m (place_of f)) is ∙ survives (place_of f) all in
    let single : (x y : Assignment) → Among x (filter w fs) → Among y (filter w fs) → assignment_cmp x y ≡ Equal → x ≡ y =
    λ x y mx my e. single_place x y all (filter_sound x w fs mx).0 (filter_sound y w fs my).0 e in
    same_ascending (answers device t) (in_order assignment_cmp (filter w fs)) A.ascends
    (ascends_all assignment_cmp assignment_total (filter w fs) [] none_ascends)
    (λ f m.
    let s = A.sound f m in
    let here : Among f (filter w fs) = filter_complete f w fs (last_complete f all (sym (at f) ∙ s.0)) ((tested (tokens f.position.pattern) device).1 s.1) in
    all_has f (filter w fs) [] here (λ x y mx my e. absurd (in_none y my)) single)
    (λ f m. elim (all_sound f (filter w fs) [] m) [
      | inl a ↦ (let s = filter_sound f w fs a in A.complete f (at f ∙ last_sound f all s.0) ((tested (tokens f.position.pattern) device).0 s.1))
      | inr n ↦ absurd (in_none f n)
    ])

pub last_are_answers : MatchesIsTested → (device : List ℕ) (after : Option Position) (t : Tree) (all : List Assignment) → IsTree t → map_of t ≡ surviving all
    → answers_after device after t ≡ last_assignments device after all
unfolding answers_after last_assignments
last_are_answers tested device after t all tree is = ap (filter (is_behind after)) (same_answers tested device t all tree is)
