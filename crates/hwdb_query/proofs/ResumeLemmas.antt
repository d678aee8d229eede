-- What is still to come after a page.
use Rattle.std.proofs.Common.{◌≡◌, ◌∙◌, ap, sym, refl, subst, ℕ, zero, suc, ◌<◌, Bool, true, false, List, [], ◌∷◌, ◌++◌, take, drop, filter, reverse, length, arith, append_assoc, Option, Some, None, if◌then◌else◌, min}
use Rattle.std.proofs.lemmas.List.{take-append-drop, reverse-reverse, reverse-append, length-reverse}
use Rattle.std.specs.List.{AllByRecursion}
use Rattle.std.specs.Ordering.{is_lt}
use Rattle.hwdb_spec.specs.Tree.{Tree, answers, answers_after, members_under}
use Rattle.hwdb_query.specs.declared.position.Position.{Position as OwnedPosition}
use Rattle.hwdb_spec.specs.Assignment.{Position, Assignment, position_cmp, assignment_cmp}
use Rattle.std.specs.List.Sorted.{IsStrictlySortedBy}
use Rattle.hwdb_spec.specs.Answers.{is_after, is_behind, is_wanted}
use Rattle.hwdb_query.specs.Internal.Hits.{IsFirst}
use Rattle.hwdb_query.specs.Views.{position_value}
use Rattle.hwdb_query.proofs.PutLemmas.{ascends_all, ascends_filter, behind_last, filter_in, filter_out}
use Rattle.hwdb_query.proofs.OrderLemmas.{behind_upward}
use Rattle.hwdb_spec.specs.Lemmas.Orders.{less_of}
use Rattle.hwdb_spec.specs.Lemmas.Places.{assignment_total}

nothing_ascends : let none : List Assignment = [] in IsStrictlySortedBy assignment_cmp none
unfolding IsStrictlySortedBy
nothing_ascends = tt

pub answers_ascend : (device : List ℕ) (after : Option Position) (t : Tree) → IsStrictlySortedBy assignment_cmp (answers_after device after t)
unfolding answers_after answers
answers_ascend device after t =
    ascends_filter assignment_cmp (is_behind after) _ (ascends_all assignment_cmp assignment_total (filter (is_wanted device) (members_under [] t)) [] nothing_ascends)

all_that_pass : (q : Assignment → Bool) (l : List Assignment) → AllByRecursion (λ y. q y ≡ true) (filter q l)
all_that_pass q [] = tt
all_that_pass q (x ∷ l) =
    let again : AllByRecursion (λ y. q y ≡ true) (filter q l) = all_that_pass q l in
    elim (q x) as (λ b. q x ≡ b → AllByRecursion (λ y. q y ≡ true) (if b then (x ∷ filter q l) else filter q l)) [
      | true ↦ λ e. (e, again)
      | false ↦ λ e. again
    ] refl

at_last : (P : Assignment → Type 0) (ys : List Assignment) (x : Assignment) (zs : List Assignment) → AllByRecursion P (ys ++ x ∷ zs) → P x
at_last P [] x zs all = all.0
at_last P (y ∷ ys) x zs all = at_last P ys x zs all.1

filter_again : (p q : Assignment → Bool) → ((y : Assignment) → p y ≡ true → q y ≡ true) → (l : List Assignment) → filter p (filter q l) ≡ filter p l
filter_again p q h [] = refl
filter_again p q h (x ∷ l) =
    let again : filter p (filter q l) ≡ filter p l = filter_again p q h l in
    elim (q x) as (λ b. q x ≡ b → filter p (filter q (x ∷ l)) ≡ filter p (x ∷ l)) [
      | true ↦ λ e. ap (filter p) (filter_in q x l e) ∙ ap (λ r. if p x then (x ∷ r) else r) again
      | false ↦ λ e. ap (filter p) (filter_out q x l e) ∙ again ∙
          sym (elim (p x) as (λ b. p x ≡ b → filter p (x ∷ l) ≡ filter p l) [
            | true ↦ λ f. let g : q x ≡ true = h x f in absurd (cc)
            | false ↦ λ f. filter_out p x l f
          ] refl)
    ] refl

-- the answers after the last of a page are those that the page left
pub answers_left : (page : ℕ) (device : List ℕ) (after : Option Position) (t : Tree) (x : Assignment) (more : List Assignment)
    → reverse (take page (answers_after device after t)) ≡ x ∷ more → answers_after device (Some x.position) t ≡ drop page (answers_after device after t)
unfolding answers_after is_after assignment_cmp
answers_left page device after t x more e =
    let all = answers device t in
    let A : List Assignment = filter (is_behind after) all in
    let front : take page A ≡ reverse more ++ x ∷ [] = sym (reverse-reverse (take page A)) ∙ ap reverse e ∙ reverse-append (x ∷ []) more in
    let split : A ≡ reverse more ++ x ∷ drop page A =
    sym (take-append-drop page A) ∙ ap (λ l. l ++ drop page A) front ∙ append_assoc (reverse more) (x ∷ []) (drop page A) in
    let up : IsStrictlySortedBy assignment_cmp (reverse more ++ x ∷ drop page A) = subst (IsStrictlySortedBy assignment_cmp) split (answers_ascend device after t) in
    let here : is_behind after x ≡ true = at_last (λ y. is_behind after y ≡ true) (reverse more) x (drop page A) (subst (AllByRecursion (λ y. is_behind after y ≡ true)) split (all_that_pass (is_behind after) all)) in
    let further : (y : Assignment) → is_lt (position_cmp x.position y.position) ≡ true → is_behind after y ≡ true = λ y h. (behind_upward after).less x y here (less_of _ h) in
    sym (filter_again (λ y. is_lt (position_cmp x.position y.position)) (is_behind after) further all)
    ∙ ap (filter (λ y. is_lt (position_cmp x.position y.position))) split
    ∙ behind_last assignment_cmp assignment_total x (reverse more) (drop page A) up

-- a page was taken, and its last position
pub page_left : (page : ℕ) (device : List ℕ) (after : Option Position) (t : Tree) (hits : List Assignment) (last : Option OwnedPosition) → hits ≡ reverse (take page (answers_after device after t))
    → IsFirst hits last → (p : OwnedPosition) → last ≡ Some p → reverse hits ++ answers_after device (Some (position_value p)) t ≡ answers_after device after t
page_left page device after t [] last e first p l = absurd (subst (IsFirst []) l first)
page_left page device after t (x ∷ more) last e first p l =
    let spot : position_value p ≡ x.position = subst (IsFirst (x ∷ more)) l first in
    let A = answers_after device after t in
    ap (λ s. reverse (x ∷ more) ++ answers_after device (Some s) t) spot
    ∙ ap (λ r. reverse (x ∷ more) ++ r) (answers_left page device after t x more (sym e))
    ∙ ap (λ r. r ++ drop page A) (ap reverse e ∙ reverse-reverse (take page A))
    ∙ take-append-drop page A

take_none_is : (page : ℕ) (A : List Assignment) → 0 < page → take page A ≡ [] → A ≡ []
take_none_is zero A h e = absurd (omega arith)
take_none_is (suc page) [] h e = refl
take_none_is (suc page) (x ∷ A) h e = absurd (cc)

no_first : (hits : List Assignment) → IsFirst hits None → hits ≡ []
no_first [] f = refl
no_first (x ∷ more) f = absurd f

pub page_none : (page : ℕ) (device : List ℕ) (after : Option Position) (t : Tree) (hits : List Assignment) (last : Option OwnedPosition) → 0 < page → hits ≡ reverse (take page (answers_after device after t))
    → IsFirst hits last → last ≡ None → answers_after device after t ≡ []
page_none page device after t hits last big e first l =
    take_none_is page _ big (sym (reverse-reverse (take page (answers_after device after t))) ∙ ap reverse (sym e ∙ no_first hits (subst (IsFirst hits) l first)))

length_take : (n : ℕ) (A : List Assignment) → length (take n A) ≡ min n (length A)
length_take zero A = omega arith
length_take (suc n) [] = omega arith
length_take (suc n) (x ∷ A) = let again : length (take n A) ≡ min n (length A) = length_take n A in omega (arith, again)

pub page_size : (page : ℕ) (A hits : List Assignment) → hits ≡ reverse (take page A) → length hits ≡ min page (length A)
page_size page A hits e = ap length e ∙ length-reverse (take page A) ∙ length_take page A
