-- Members put in order, and lists cut.
use Rattle.std.proofs.Common.{◌≡◌, ◌∙◌, ap, sym, refl, ℕ, zero, suc, Bool, true, false, List, [], ◌∷◌, ◌++◌, take, filter, if◌then◌else◌}
use Rattle.std.specs.declared.cmp.Ordering.{Ordering}
use Rattle.std.specs.declared.cmp.Ordering.TheVariants.{Less, Equal, Greater}
use Rattle.std.specs.Ordering.{match_ordering, is_lt, ordering_reverse}
use Rattle.std.specs.Cmp.{IsTotalOrder}
use Rattle.std.specs.List.{AllByRecursion}
use Rattle.std.proofs.lemmas.Cmp.{tied_itself}
use Rattle.hwdb_spec.specs.Assignment.{put, put_all, in_order}
use Rattle.std.specs.List.Sorted.{IsStrictlySortedBy}
use Rattle.hwdb_query.specs.Internal.Lists.{keep_all}

take_shorter : {A : Type 0} (n : ℕ) (ys : List A) → take n (take (suc n) ys) ≡ take n ys
take_shorter zero ys = refl
take_shorter (suc n) [] = refl
take_shorter (suc n) (y ∷ ys) = ap (λ l. y ∷ l) (take_shorter n ys)

take_again : {A : Type 0} (n : ℕ) (ys : List A) → take n (take n ys) ≡ take n ys
take_again zero ys = refl
take_again (suc n) [] = refl
take_again (suc n) (y ∷ ys) = ap (λ l. y ∷ l) (take_again n ys)

take_behind : {A : Type 0} (n : ℕ) (y : A) (ys : List A) → take n (y ∷ take n ys) ≡ take n (y ∷ ys)
take_behind zero y ys = refl
take_behind (suc n) y ys = ap (λ l. y ∷ l) (take_shorter n ys)

-- what a cut list has lost is lost after a new member too
pub take_put : {A : Type 0} (cmp : A → A → Ordering) (n : ℕ) (x : A) (l : List A) → take n (put cmp x (take n l)) ≡ take n (put cmp x l)
unfolding put
take_put cmp zero x l = refl
take_put cmp (suc n) x [] = refl
take_put cmp (suc n) x (y ∷ ys) =
    elim (cmp x y) as (λ o. take (suc n) (match_ordering o (x ∷ y ∷ take n ys) (y ∷ take n ys) (y ∷ put cmp x (take n ys)))
    ≡ take (suc n) (match_ordering o (x ∷ y ∷ ys) (y ∷ ys) (y ∷ put cmp x ys))) [
      | Less ↦ ap (λ l. x ∷ l) (take_behind n y ys)
      | Equal ↦ ap (λ l. y ∷ l) (take_again n ys)
      | Greater ↦ ap (λ l. y ∷ l) (take_put cmp n x ys)
    ]

-- keeping the least of each step keeps the least of all
pub keep_all_take : {A : Type 0} (cmp : A → A → Ordering) (n : ℕ) (xs l : List A) → keep_all cmp n xs (take n l) ≡ take n (put_all cmp xs l)
unfolding put_all keep_all
keep_all_take cmp n [] l = refl
keep_all_take cmp n (x ∷ xs) l = ap (λ k. keep_all cmp n xs k) (take_put cmp n x l) ∙ keep_all_take cmp n xs (put cmp x l)

take_none : {A : Type 0} (n : ℕ) → let none : List A = [] in take n none ≡ none
take_none zero = refl
take_none (suc n) = refl

pub keep_least : {A : Type 0} (cmp : A → A → Ordering) (n : ℕ) (xs : List A) → keep_all cmp n xs [] ≡ take n (in_order cmp xs)
keep_least cmp n xs = ap (λ l. keep_all cmp n xs l) (sym (take_none n)) ∙ keep_all_take cmp n xs []

pub keep_all_append : {A : Type 0} (cmp : A → A → Ordering) (n : ℕ) (xs ys l : List A) → keep_all cmp n (xs ++ ys) l ≡ keep_all cmp n ys (keep_all cmp n xs l)
unfolding keep_all
keep_all_append cmp n [] ys l = refl
keep_all_append cmp n (x ∷ xs) ys l = keep_all_append cmp n xs ys (take n (put cmp x l))

-- what passes goes on passing after it
pub record Upward {A : Type 0} (cmp : A → A → Ordering) (p : A → Bool) : Type 0 where
  pub less : (x y : A) → p x ≡ true → cmp x y ≡ Less → p y ≡ true
  pub same : (x y : A) → p x ≡ true → cmp x y ≡ Equal → p y ≡ true

pub filter_in : {A : Type 0} (p : A → Bool) (x : A) (xs : List A) → p x ≡ true → filter p (x ∷ xs) ≡ x ∷ filter p xs
filter_in p x xs h = rw h refl

pub filter_out : {A : Type 0} (p : A → Bool) (x : A) (xs : List A) → p x ≡ false → filter p (x ∷ xs) ≡ filter p xs
filter_out p x xs h = rw h refl

pub put_less : {A : Type 0} (cmp : A → A → Ordering) (x y : A) (ys : List A) → cmp x y ≡ Less → put cmp x (y ∷ ys) ≡ x ∷ y ∷ ys
unfolding put
put_less cmp x y ys h = rw h refl

pub put_same : {A : Type 0} (cmp : A → A → Ordering) (x y : A) (ys : List A) → cmp x y ≡ Equal → put cmp x (y ∷ ys) ≡ y ∷ ys
unfolding put
put_same cmp x y ys h = rw h refl

pub put_more : {A : Type 0} (cmp : A → A → Ordering) (x y : A) (ys : List A) → cmp x y ≡ Greater → put cmp x (y ∷ ys) ≡ y ∷ put cmp x ys
unfolding put
put_more cmp x y ys h = rw h refl

pub filter_put_in : {A : Type 0} (cmp : A → A → Ordering) (p : A → Bool) → Upward cmp p → (x : A) (l : List A) → p x ≡ true → filter p (put cmp x l) ≡ put cmp x (filter p l)
unfolding put
filter_put_in cmp p up x [] h = filter_in p x [] h
filter_put_in cmp p up x (y ∷ ys) h =
    let again : filter p (put cmp x ys) ≡ put cmp x (filter p ys) = filter_put_in cmp p up x ys h in
    elim (cmp x y) as (λ o. cmp x y ≡ o → filter p (put cmp x (y ∷ ys)) ≡ put cmp x (filter p (y ∷ ys))) [
      | Less ↦ λ e. let py : p y ≡ true = up.less x y h e in
          ap (filter p) (put_less cmp x y ys e) ∙ filter_in p x (y ∷ ys) h ∙ ap (λ l. x ∷ l) (filter_in p y ys py)
          ∙ sym (put_less cmp x y (filter p ys) e) ∙ ap (put cmp x) (sym (filter_in p y ys py))
      | Equal ↦ λ e. let py : p y ≡ true = up.same x y h e in
          ap (filter p) (put_same cmp x y ys e) ∙ filter_in p y ys py
          ∙ sym (put_same cmp x y (filter p ys) e) ∙ ap (put cmp x) (sym (filter_in p y ys py))
      | Greater ↦ λ e. ap (filter p) (put_more cmp x y ys e) ∙
          (elim (p y) as (λ b. p y ≡ b → filter p (y ∷ put cmp x ys) ≡ put cmp x (filter p (y ∷ ys))) [
            | true ↦ λ py. filter_in p y (put cmp x ys) py ∙ ap (λ l. y ∷ l) again ∙ sym (put_more cmp x y (filter p ys) e) ∙ ap (put cmp x) (sym (filter_in p y ys py))
            | false ↦ λ py. filter_out p y (put cmp x ys) py ∙ again ∙ ap (put cmp x) (sym (filter_out p y ys py))
          ] refl)
    ] refl

pub filter_put_out : {A : Type 0} (cmp : A → A → Ordering) (p : A → Bool) (x : A) (l : List A) → p x ≡ false → filter p (put cmp x l) ≡ filter p l
unfolding put
filter_put_out cmp p x [] h = filter_out p x [] h
filter_put_out cmp p x (y ∷ ys) h =
    let again : filter p (put cmp x ys) ≡ filter p ys = filter_put_out cmp p x ys h in
    elim (cmp x y) as (λ o. cmp x y ≡ o → filter p (put cmp x (y ∷ ys)) ≡ filter p (y ∷ ys)) [
      | Less ↦ λ e. ap (filter p) (put_less cmp x y ys e) ∙ filter_out p x (y ∷ ys) h
      | Equal ↦ λ e. ap (filter p) (put_same cmp x y ys e)
      | Greater ↦ λ e. ap (filter p) (put_more cmp x y ys e) ∙ ap (λ l. if p y then (y ∷ l) else l) again
    ] refl

pub filter_put_all : {A : Type 0} (cmp : A → A → Ordering) (p : A → Bool) → Upward cmp p → (xs l : List A) → filter p (put_all cmp xs l) ≡ put_all cmp (filter p xs) (filter p l)
unfolding put_all
filter_put_all cmp p up [] l = refl
filter_put_all cmp p up (x ∷ xs) l =
    let again : filter p (put_all cmp xs (put cmp x l)) ≡ put_all cmp (filter p xs) (filter p (put cmp x l)) = filter_put_all cmp p up xs (put cmp x l) in
    elim (p x) as (λ b. p x ≡ b → filter p (put_all cmp xs (put cmp x l)) ≡ put_all cmp (filter p (x ∷ xs)) (filter p l)) [
      | true ↦ λ h. again ∙ ap (put_all cmp (filter p xs)) (filter_put_in cmp p up x l h) ∙ ap (λ k. put_all cmp k (filter p l)) (sym (filter_in p x xs h))
      | false ↦ λ h. again ∙ ap (put_all cmp (filter p xs)) (filter_put_out cmp p x l h) ∙ ap (λ k. put_all cmp k (filter p l)) (sym (filter_out p x xs h))
    ] refl

all_put : {A : Type 0} (cmp : A → A → Ordering) (P : A → Type 0) (x : A) (l : List A) → P x → AllByRecursion P l → AllByRecursion P (put cmp x l)
unfolding put
all_put cmp P x [] px all = (px, tt)
all_put cmp P x (y ∷ ys) px all =
    elim (cmp x y) as (λ o. AllByRecursion P (match_ordering o (x ∷ y ∷ ys) (y ∷ ys) (y ∷ put cmp x ys))) [
      | Less ↦ (px, all)
      | Equal ↦ all
      | Greater ↦ (all.0, all_put cmp P x ys px all.1)
    ]

pub all_above : {A : Type 0} (cmp : A → A → Ordering) → IsTotalOrder cmp → (x y : A) (ys : List A) → cmp x y ≡ Less → AllByRecursion (λ z. cmp y z ≡ Less) ys → AllByRecursion (λ z. cmp x z ≡ Less) ys
all_above cmp total x y [] h all = tt
all_above cmp total x y (z ∷ zs) h all = (total.trans x y z h all.0, all_above cmp total x y zs h all.1)

pub above_of : {A : Type 0} (cmp : A → A → Ordering) → IsTotalOrder cmp → (x y : A) → cmp x y ≡ Greater → cmp y x ≡ Less
above_of cmp total x y h = let e = total.antisymm y x in e ∙ rw h refl

pub ascends_put : {A : Type 0} (cmp : A → A → Ordering) → IsTotalOrder cmp → (x : A) (l : List A) → IsStrictlySortedBy cmp l → IsStrictlySortedBy cmp (put cmp x l)
unfolding put IsStrictlySortedBy
ascends_put cmp total x [] up = (tt, tt)
ascends_put cmp total x (y ∷ ys) up =
    elim (cmp x y) as (λ o. cmp x y ≡ o → IsStrictlySortedBy cmp (match_ordering o (x ∷ y ∷ ys) (y ∷ ys) (y ∷ put cmp x ys))) [
      | Less ↦ λ e. ((e, all_above cmp total x y ys e up.0), up)
      | Equal ↦ λ e. up
      | Greater ↦ λ e. (all_put cmp (λ z. cmp y z ≡ Less) x ys (above_of cmp total x y e) up.0, ascends_put cmp total x ys up.1)
    ] refl

pub ascends_all : {A : Type 0} (cmp : A → A → Ordering) → IsTotalOrder cmp → (xs l : List A) → IsStrictlySortedBy cmp l → IsStrictlySortedBy cmp (put_all cmp xs l)
unfolding put_all
ascends_all cmp total [] l up = up
ascends_all cmp total (x ∷ xs) l up = ascends_all cmp total xs (put cmp x l) (ascends_put cmp total x l up)

all_filter : {A : Type 0} (P : A → Type 0) (p : A → Bool) (xs : List A) → AllByRecursion P xs → AllByRecursion P (filter p xs)
all_filter P p [] all = tt
all_filter P p (x ∷ xs) all =
    elim (p x) as (λ b. AllByRecursion P (if b then (x ∷ filter p xs) else filter p xs)) [
      | true ↦ (all.0, all_filter P p xs all.1)
      | false ↦ all_filter P p xs all.1
    ]

pub ascends_filter : {A : Type 0} (cmp : A → A → Ordering) (p : A → Bool) (xs : List A) → IsStrictlySortedBy cmp xs → IsStrictlySortedBy cmp (filter p xs)
unfolding IsStrictlySortedBy
ascends_filter cmp p [] up = tt
ascends_filter cmp p (x ∷ xs) up =
    elim (p x) as (λ b. IsStrictlySortedBy cmp (if b then (x ∷ filter p xs) else filter p xs)) [
      | true ↦ (all_filter (λ y. cmp x y ≡ Less) p xs up.0, ascends_filter cmp p xs up.1)
      | false ↦ ascends_filter cmp p xs up.1
    ]

pub below_of : {A : Type 0} (cmp : A → A → Ordering) → IsTotalOrder cmp → (x y : A) → cmp x y ≡ Less → cmp y x ≡ Greater
below_of cmp total x y h = total.antisymm y x ∙ ap ordering_reverse h

put_below : {A : Type 0} (cmp : A → A → Ordering) (x y z : A) (zs : List A) → cmp x y ≡ Less → cmp x z ≡ Less → put cmp x (put cmp y (z ∷ zs)) ≡ x ∷ put cmp y (z ∷ zs)
unfolding put
put_below cmp x y z zs xy xz =
    elim (cmp y z) as (λ o. let l = match_ordering o (y ∷ z ∷ zs) (z ∷ zs) (z ∷ put cmp y zs) in put cmp x l ≡ x ∷ l) [
      | Less ↦ put_less cmp x y (z ∷ zs) xy
      | Equal ↦ put_less cmp x z zs xz
      | Greater ↦ put_less cmp x z (put cmp y zs) xz
    ]

put_either : {A : Type 0} (cmp : A → A → Ordering) → IsTotalOrder cmp → (x y : A) (l : List A) → cmp x y ≡ Less → put cmp x (put cmp y l) ≡ put cmp y (put cmp x l)
unfolding put
put_either cmp total x y [] xy = put_less cmp x y [] xy ∙ sym (put_more cmp y x [] (below_of cmp total x y xy))
put_either cmp total x y (z ∷ zs) xy =
    let yx : cmp y x ≡ Greater = below_of cmp total x y xy in
    elim (cmp x z) as (λ o. cmp x z ≡ o → put cmp x (put cmp y (z ∷ zs)) ≡ put cmp y (put cmp x (z ∷ zs))) [
      | Less ↦ λ e. put_below cmp x y z zs xy e ∙ sym (ap (put cmp y) (put_less cmp x z zs e) ∙ put_more cmp y x (z ∷ zs) yx)
      | Equal ↦ λ e.
          let yz : cmp y z ≡ Greater = below_of cmp total z y (sym (total.congr x z y e) ∙ xy) in
          ap (put cmp x) (put_more cmp y z zs yz) ∙ put_same cmp x z (put cmp y zs) e ∙ sym (ap (put cmp y) (put_same cmp x z zs e) ∙ put_more cmp y z zs yz)
      | Greater ↦ λ e.
          let yz : cmp y z ≡ Greater = below_of cmp total z y (total.trans z x y (above_of cmp total x z e) xy) in
          ap (put cmp x) (put_more cmp y z zs yz) ∙ put_more cmp x z (put cmp y zs) e
          ∙ ap (λ l. z ∷ l) (put_either cmp total x y zs xy)
          ∙ sym (ap (put cmp y) (put_more cmp x z zs e) ∙ put_more cmp y z (put cmp x zs) yz)
    ] refl

-- two members of different places are put there in either order
pub put_both_ways : {A : Type 0} (cmp : A → A → Ordering) → IsTotalOrder cmp → (x y : A) (l : List A) → (cmp x y ≡ Equal → ⊥) → put cmp x (put cmp y l) ≡ put cmp y (put cmp x l)
put_both_ways cmp total x y l apart =
    elim (cmp x y) as (λ o. cmp x y ≡ o → put cmp x (put cmp y l) ≡ put cmp y (put cmp x l)) [
      | Less ↦ λ e. put_either cmp total x y l e
      | Equal ↦ λ e. absurd (apart e)
      | Greater ↦ λ e. sym (put_either cmp total y x l (above_of cmp total x y e))
    ] refl

-- the members of one list have other places than those of the other
abbrev pub PlacesApart : {A : Type 0} → (A → A → Ordering) → List A → List A → Type 0
PlacesApart cmp xs ys = AllByRecursion (λ x. AllByRecursion (λ y. cmp x y ≡ Equal → ⊥) ys) xs

keep_past : {A : Type 0} (cmp : A → A → Ordering) → IsTotalOrder cmp → (n : ℕ) (x : A) (ys l : List A) → AllByRecursion (λ y. cmp x y ≡ Equal → ⊥) ys
    → take n (put cmp x (keep_all cmp n ys l)) ≡ keep_all cmp n ys (take n (put cmp x l))
unfolding keep_all
keep_past cmp total n x [] l apart = refl
keep_past cmp total n x (y ∷ ys) l apart =
    keep_past cmp total n x ys (take n (put cmp y l)) apart.1
    ∙ ap (keep_all cmp n ys) (take_put cmp n x (put cmp y l) ∙ ap (take n) (put_both_ways cmp total x y l apart.0) ∙ sym (take_put cmp n y (put cmp x l)))

-- two such lists are kept in either order
pub keep_both_ways : {A : Type 0} (cmp : A → A → Ordering) → IsTotalOrder cmp → (n : ℕ) (xs ys l : List A) → PlacesApart cmp xs ys
    → keep_all cmp n xs (keep_all cmp n ys l) ≡ keep_all cmp n ys (keep_all cmp n xs l)
unfolding keep_all
keep_both_ways cmp total n [] ys l apart = refl
keep_both_ways cmp total n (x ∷ xs) ys l apart =
    ap (keep_all cmp n xs) (keep_past cmp total n x ys l apart.0) ∙ keep_both_ways cmp total n xs ys (take n (put cmp x l)) apart.1

pub apart_filter : {A : Type 0} (cmp : A → A → Ordering) (p : A → Bool) (xs ys : List A) → PlacesApart cmp xs ys → PlacesApart cmp (filter p xs) (filter p ys)
apart_filter {A = A} cmp p xs ys apart = all_filter (λ x. AllByRecursion (λ y. cmp x y ≡ Equal → ⊥) (filter p ys)) p xs (go xs apart)
  where
    go : (xs : List A) → PlacesApart cmp xs ys → PlacesApart cmp xs (filter p ys)
    go [] apart = tt
    go (x ∷ xs) apart = (all_filter (λ y. cmp x y ≡ Equal → ⊥) p ys apart.0, go xs apart.1)

above : {A : Type 0} → (A → A → Ordering) → A → A → Bool
above cmp x y = is_lt (cmp x y)

-- all that come after a member pass the test of being above it
all_pass : {A : Type 0} (cmp : A → A → Ordering) (x : A) (zs : List A) → AllByRecursion (λ y. cmp x y ≡ Less) zs → filter (λ y. is_lt (cmp x y)) zs ≡ zs
all_pass cmp x [] all = refl
all_pass cmp x (z ∷ zs) all = filter_in (λ y. is_lt (cmp x y)) z zs (ap is_lt all.0) ∙ ap (λ l. z ∷ l) (all_pass cmp x zs all.1)

below_last : {A : Type 0} (cmp : A → A → Ordering) (y x : A) (ys zs : List A) → AllByRecursion (λ z. cmp y z ≡ Less) (ys ++ x ∷ zs) → cmp y x ≡ Less
below_last cmp y x [] zs all = all.0
below_last cmp y x (w ∷ ys) zs all = below_last cmp y x ys zs all.1

not_above : {A : Type 0} (cmp : A → A → Ordering) → IsTotalOrder cmp → (x y : A) → cmp y x ≡ Less → is_lt (cmp x y) ≡ false
not_above cmp total x y h = let e : cmp x y ≡ Greater = total.antisymm x y ∙ ap ordering_reverse h in ap is_lt e

not_itself : {A : Type 0} (cmp : A → A → Ordering) → IsTotalOrder cmp → (x : A) → is_lt (cmp x x) ≡ false
not_itself cmp total x = ap is_lt (tied_itself total x)

-- those above a member of an ascending list are those after it
pub behind_last : {A : Type 0} (cmp : A → A → Ordering) → IsTotalOrder cmp → (x : A) (ys zs : List A) → IsStrictlySortedBy cmp (ys ++ x ∷ zs) → filter (λ y. is_lt (cmp x y)) (ys ++ x ∷ zs) ≡ zs
unfolding IsStrictlySortedBy
behind_last cmp total x [] zs up = filter_out (λ y. is_lt (cmp x y)) x zs (not_itself cmp total x) ∙ all_pass cmp x zs up.0
behind_last cmp total x (y ∷ ys) zs up =
    filter_out (λ y. is_lt (cmp x y)) y (ys ++ x ∷ zs) (not_above cmp total x y (below_last cmp y x ys zs up.0)) ∙ behind_last cmp total x ys zs up.1
