-- Lists in order, each place once, are determined by their members.
use Rattle.std.proofs.Common.{◌≡◌, ◌<◌, ◌+◌, ℕ, zero, suc, List, [], ◌∷◌, length, get_or, map, true, false, refl, sym, ◌∙◌, ap, subst, arith, Ordering, inl, inr, ◌⊎◌, ⊎_elim, filter, cond, Bool}
use Rattle.std.specs.declared.cmp.Ordering.TheVariants.{Less, Equal, Greater}
use Rattle.std.specs.Cmp.{IsTotalOrder}
use Rattle.std.specs.Ordering.{match_ordering, ordering_reverse, eq_by_cmp, is_eq, is_lt}
use Rattle.std.specs.List.{AllByRecursion, Contains, IsDistinct}
use Rattle.std.specs.List.Sorted.{IsStrictlySortedBy, IsSorted, IsPermutation}
use Rattle.std.proofs.lemmas.Cmp.{tied_itself}
use Rattle.std.proofs.lemmas.List.{length-map}
use Rattle.std.proofs.lemmas.List.Sorted.{Contains-permutation, IsPermutation-sym, ranks_by, sorted_far}
use Rattle.std.proofs.lemmas.Map.Keys.{IsDistinct-IsPermutation, IsDistinct-from_sorted}
use Rattle.std.proofs.lemmas.List.Kept.{IsStrictlySortedBy-filter}
use Rattle.hwdb_spec.specs.Assignment.{put, put_all, in_order}
use Rattle.hwdb_spec.specs.Lemmas.Orders.{turned}

-- it is one of the list
abbrev pub Holds : {A : Type 0} → List A → A → Type 0
Holds [] s = ⊥
Holds (t ∷ ts) s = (s ≡ t) ⊎ Holds ts s

pub held : {A : Type 0} (xs : List A) (s : A) → Holds xs s → Contains xs s
held [] s h = absurd h
held (x ∷ xs) s h =
    ⊎_elim {C = Contains (x ∷ xs) s} (λ e. (0, omega arith, sym e)) (λ r. let f = held xs s r in (suc f.0, omega (arith, f.1), f.2)) h

holding : {A : Type 0} (xs : List A) (x : A) (k : ℕ) → k < length xs → get_or xs k x ≡ x → Holds xs x
holding [] x k lt e = absurd (omega (arith, lt))
holding (y ∷ ys) x zero lt e = inl (sym e)
holding (y ∷ ys) x (suc k) lt e = inr (holding ys x k (omega (arith, lt)) e)

pub holds_it : {A : Type 0} (xs : List A) (x : A) → Contains xs x → Holds xs x
holds_it xs x c = holding xs x c.0 c.1 c.2

module _ {A : Type 0} (cmp : A → A → Ordering) (total : IsTotalOrder cmp) where
  above : (t : A) (ts : List A) (s : A) → AllByRecursion (λ y. cmp t y ≡ Less) ts → Holds ts s → cmp t s ≡ Less
  above t [] s a h = absurd h
  above t (u ∷ us) s a h = ⊎_elim {C = cmp t s ≡ Less} (λ e. ap (cmp t) e ∙ a.0) (λ r. above t us s a.1 r) h

  pub not_above_itself : (s : A) → cmp s s ≡ Less → ⊥
  not_above_itself s e = let k = tied_itself total s in cc

  not_both : (s t : A) → cmp s t ≡ Less → cmp t s ≡ Less → ⊥
  not_both s t e f = not_above_itself s (total.trans s t s e f)

  same_head : (x y : A) (xs ys : List A) → IsStrictlySortedBy cmp (x ∷ xs) → IsStrictlySortedBy cmp (y ∷ ys) → Holds (y ∷ ys) x → Holds (x ∷ xs) y → x ≡ y
  unfolding IsStrictlySortedBy
  same_head x y xs ys p q h k =
      ⊎_elim {C = x ≡ y} (λ e. e) (λ r. ⊎_elim {C = x ≡ y} (λ e. sym e) (λ s. absurd (not_both x y (above x xs y p.0 s) (above y ys x q.0 r))) k) h

  in_rest : (x y : A) (xs ys : List A) → x ≡ y → IsStrictlySortedBy cmp (x ∷ xs) → (s : A) → Holds xs s → Holds (y ∷ ys) s → Holds ys s
  unfolding IsStrictlySortedBy
  in_rest x y xs ys e p s h k =
      ⊎_elim {C = Holds ys s} (λ same. absurd (not_above_itself x (let P : A → Type 0 = λ t. cmp x t ≡ Less in subst P (same ∙ sym e) (above x xs s p.0 h)))) (λ r. r) k

  -- lists in order with the same members are one
  pub one_list : (xs ys : List A) → IsStrictlySortedBy cmp xs → IsStrictlySortedBy cmp ys → ((s : A) → Holds xs s → Holds ys s) → ((s : A) → Holds ys s → Holds xs s) → xs ≡ ys
  unfolding IsStrictlySortedBy
  one_list [] [] p q f g = refl
  one_list [] (y ∷ ys) p q f g = absurd (g y (inl refl))
  one_list (x ∷ xs) [] p q f g = absurd (f x (inl refl))
  one_list (x ∷ xs) (y ∷ ys) p q f g =
      let e = same_head x y xs ys p q (f x (inl refl)) (g y (inl refl)) in
      let rest = one_list xs ys p.1 q.1 (λ s h. in_rest x y xs ys e p s h (f s (inr h))) (λ s h. in_rest y x ys xs (sym e) q s h (g s (inr h))) in
      λ i. e i ∷ rest i

  all_put : (P : A → Type 0) (s : A) (ts : List A) → P s → AllByRecursion P ts → AllByRecursion P (put cmp s ts)
  unfolding put
  all_put P s [] p a = (p, tt)
  all_put P s (t ∷ ts) p a =
      elim (cmp s t) as (λ r. AllByRecursion P (match_ordering r (s ∷ t ∷ ts) (t ∷ ts) (t ∷ put cmp s ts))) [
        | Less ↦ (p, a)
        | Equal ↦ a
        | Greater ↦ (a.0, all_put P s ts p a.1)
      ]

  all_above : (s t : A) (ts : List A) → cmp s t ≡ Less → AllByRecursion (λ y. cmp t y ≡ Less) ts → AllByRecursion (λ y. cmp s y ≡ Less) ts
  all_above s t [] e a = tt
  all_above s t (u ∷ us) e a = (total.trans s t u e a.0, all_above s t us e a.1)

  turned_back : (s t : A) → cmp s t ≡ Greater → cmp t s ≡ Less
  turned_back s t e = total.antisymm t s ∙ ap ordering_reverse e

  put_step : (s t : A) (ts : List A) (r : Ordering) → cmp s t ≡ r → IsStrictlySortedBy cmp (t ∷ ts) → IsStrictlySortedBy cmp (put cmp s ts)
      → IsStrictlySortedBy cmp (match_ordering r (s ∷ t ∷ ts) (t ∷ ts) (t ∷ put cmp s ts))
  unfolding IsStrictlySortedBy
  put_step s t ts Less e o h = ((e, all_above s t ts e o.0), o)
  put_step s t ts Equal e o h = o
  put_step s t ts Greater e o h = (all_put (λ y. cmp t y ≡ Less) s ts (turned_back s t e) o.0, h)

  -- a member put in its place leaves the list in order
  pub put_ordered : (s : A) (ts : List A) → IsStrictlySortedBy cmp ts → IsStrictlySortedBy cmp (put cmp s ts)
  unfolding put IsStrictlySortedBy
  put_ordered s [] o = (tt, tt)
  put_ordered s (t ∷ ts) o = put_step s t ts (cmp s t) refl o (put_ordered s ts o.1)

  pub put_all_ordered : (xs l : List A) → IsStrictlySortedBy cmp l → IsStrictlySortedBy cmp (put_all cmp xs l)
  unfolding put_all
  put_all_ordered [] l o = o
  put_all_ordered (x ∷ xs) l o = put_all_ordered xs (put cmp x l) (put_ordered x l o)

  held_step : (s t : A) (ts : List A) (u : A) (r : Ordering) → (Holds (put cmp s ts) u → Holds (s ∷ ts) u)
      → Holds (match_ordering r (s ∷ t ∷ ts) (t ∷ ts) (t ∷ put cmp s ts)) u → Holds (s ∷ t ∷ ts) u
  held_step s t ts u Less ih k = k
  held_step s t ts u Equal ih k = inr k
  held_step s t ts u Greater ih k =
      ⊎_elim {C = Holds (s ∷ t ∷ ts) u} (λ a. inr (inl a)) (λ b. ⊎_elim {C = Holds (s ∷ t ∷ ts) u} (λ same. inl same) (λ r. inr (inr r)) (ih b)) k

  pub held_before : (s : A) (ts : List A) (u : A) → Holds (put cmp s ts) u → Holds (s ∷ ts) u
  unfolding put
  held_before s [] u h = h
  held_before s (t ∷ ts) u h = held_step s t ts u (cmp s t) (held_before s ts u) h

  holds_step : (s t : A) (ts : List A) (u : A) (r : Ordering) → cmp s t ≡ r → (cmp s t ≡ Equal → s ≡ t) → Holds (s ∷ t ∷ ts) u
      → (Holds (s ∷ ts) u → Holds (put cmp s ts) u) → Holds (match_ordering r (s ∷ t ∷ ts) (t ∷ ts) (t ∷ put cmp s ts)) u
  holds_step s t ts u Less e same h ih = h
  holds_step s t ts u Equal e same h ih = ⊎_elim {C = Holds (t ∷ ts) u} (λ is. inl (is ∙ same e)) (λ r. r) h
  holds_step s t ts u Greater e same h ih =
      ⊎_elim {C = Holds (t ∷ put cmp s ts) u} (λ is. inr (ih (inl is)))
      (λ r. ⊎_elim {C = Holds (t ∷ put cmp s ts) u} (λ a. inl a) (λ b. inr (ih (inr b))) r) h

  -- what had no other member of its place before is held
  pub held_behind : (s : A) (ts : List A) (u : A) → ((t : A) → Holds ts t → cmp s t ≡ Equal → s ≡ t) → Holds (s ∷ ts) u → Holds (put cmp s ts) u
  unfolding put
  held_behind s [] u same h = h
  held_behind s (t ∷ ts) u same h = holds_step s t ts u (cmp s t) refl (same t (inl refl)) h (held_behind s ts u (λ v k. same v (inr k)))

  pub put_all_from : (xs l : List A) (u : A) → Holds (put_all cmp xs l) u → Holds xs u ⊎ Holds l u
  unfolding put_all
  put_all_from [] l u h = inr h
  put_all_from (x ∷ xs) l u h =
      let C : Type 0 = Holds (x ∷ xs) u ⊎ Holds l u in
      ⊎_elim {C = C} (λ a. inl (inr a)) (λ b. ⊎_elim {C = C} (λ e. inl (inl e)) (λ r. inr r) (held_before x l u b)) (put_all_from xs (put cmp x l) u h)

  module _ (Q : A → Type 0) (single : (x y : A) → Q x → Q y → cmp x y ≡ Equal → x ≡ y) where
    pub put_all_holds : (xs l : List A) → ((u : A) → Holds xs u → Q u) → ((u : A) → Holds l u → Q u) → (u : A) → Holds xs u ⊎ Holds l u → Holds (put_all cmp xs l) u
    unfolding put_all
    put_all_holds [] l p q u h = ⊎_elim {C = Holds l u} (λ a. absurd a) (λ b. b) h
    put_all_holds (x ∷ xs) l p q u h =
        let same : (t : A) → Holds l t → cmp x t ≡ Equal → x ≡ t = λ t k. single x t (p x (inl refl)) (q t k) in
        let C : Type 0 = Holds xs u ⊎ Holds (put cmp x l) u in
        put_all_holds xs (put cmp x l) (λ v k. p v (inr k))
        (λ v k. ⊎_elim {C = Q v} (λ e. subst Q (sym e) (p x (inl refl))) (λ r. q v r) (held_before x l v k)) u
        (⊎_elim {C = C} (λ a. ⊎_elim {C = C} (λ e. inr (held_behind x l u same (inl e))) (λ r. inl r) a) (λ b. inr (held_behind x l u same (inr b))) h)

  not_tied : (x y : A) → eq_by_cmp cmp x y ≡ false → cmp x y ≡ Equal → ⊥
  not_tied x y d e = let t : true ≡ false = sym (ap is_eq e) ∙ d in cc

  apart : (x : A) (xs : List A) → AllByRecursion (λ y. eq_by_cmp cmp x y ≡ false) xs → (y : A) → Holds xs y → cmp x y ≡ Equal → ⊥
  apart x [] a y h e = h
  apart x (z ∷ zs) a y h e = ⊎_elim {C = ⊥} (λ is. not_tied x z a.0 (ap (cmp x) (sym is) ∙ e)) (λ r. apart x zs a.1 y r e) h

  flipped : (x y : A) → eq_by_cmp cmp x y ≡ eq_by_cmp cmp y x
  flipped x y = ap is_eq (total.antisymm x y) ∙ turned (cmp y x)

  -- of a list whose places differ no two members have one place
  pub distinct_single : (xs : List A) → IsDistinct (eq_by_cmp cmp) xs → (x y : A) → Holds xs x → Holds xs y → cmp x y ≡ Equal → x ≡ y
  unfolding IsDistinct
  distinct_single [] d x y h k e = absurd h
  distinct_single (z ∷ zs) d x y h k e =
      let C : Type 0 = x ≡ y in
      ⊎_elim {C = C}
      (λ a. ⊎_elim {C = C} (λ b. a ∙ sym b) (λ s. absurd (apart z zs d.0 y s (ap (λ w. cmp w y) (sym a) ∙ e))) k)
      (λ r. ⊎_elim {C = C} (λ b. absurd (apart z zs d.0 x r (total.antisymm z x ∙ ap ordering_reverse (ap (cmp x) (sym b) ∙ e)))) (λ s. distinct_single zs d.1 x y r s e) k) h

  below_of : (x y : A) (r : Ordering) → cmp x y ≡ r → is_lt (cmp y x) ≡ false → eq_by_cmp cmp x y ≡ false → r ≡ Less
  below_of x y Less e l d = refl
  below_of x y Equal e l d = absurd (not_tied x y d e)
  below_of x y Greater e l d = let t : true ≡ false = sym (ap is_lt (turned_back x y e)) ∙ l in cc

  all_below : (x : A) (xs : List A) → ((k : ℕ) → k < length xs → is_lt (cmp (get_or xs k x) x) ≡ false) → AllByRecursion (λ y. eq_by_cmp cmp x y ≡ false) xs → AllByRecursion (λ y. cmp x y ≡ Less) xs
  all_below x [] h d = tt
  all_below x (y ∷ ys) h d = (below_of x y (cmp x y) refl (h 0 (omega arith)) d.0, all_below x ys (λ k l. h (suc k) (omega arith)) d.1)

  sorted_rest : (x : A) (xs : List A) → IsSorted cmp (x ∷ xs) → IsSorted cmp xs
  sorted_rest x xs s k d l h =
      let t : is_lt (cmp (get_or (x ∷ xs) (suc k + 1) d) (get_or (x ∷ xs) (suc k) d)) ≡ false = s (suc k) d (omega arith) (omega arith) in
      let e : suc k + 1 ≡ suc (k + 1) = omega arith in
      let P : ℕ → Type 0 = λ n. is_lt (cmp (get_or (x ∷ xs) n d) (get_or xs k d)) ≡ false in subst P e t

  -- a sorted list whose places differ
  strictly : (xs : List A) → IsSorted cmp xs → IsDistinct (eq_by_cmp cmp) xs → IsStrictlySortedBy cmp xs
  unfolding IsStrictlySortedBy IsDistinct
  strictly [] s d = tt
  strictly (x ∷ xs) s d = (
    all_below x xs (λ k l. sorted_far (λ a b. is_lt (cmp a b)) (ranks_by total (λ (a : A). a)) (x ∷ xs) s 0 (suc k) x (omega arith) (omega arith)) d.0,
    strictly xs (sorted_rest x xs s) d.1,
  )

  pub nothing_ordered : let none : List A = [] in IsStrictlySortedBy cmp none
  unfolding IsStrictlySortedBy
  nothing_ordered = tt

  -- what a sort leaves of a list whose places differ
  pub sorted_is : (old new : List A) → IsPermutation old new → IsSorted cmp new → IsDistinct (eq_by_cmp cmp) old → new ≡ in_order cmp old
  sorted_is old new moved up apart =
      let none : List A = [] in
      one_list new (in_order cmp old)
      (strictly new up (IsDistinct-IsPermutation (eq_by_cmp cmp) flipped old new moved apart))
      (put_all_ordered old none nothing_ordered)
      (λ s h. put_all_holds (Holds old) (distinct_single old apart) old none (λ u k. k) (λ u k. absurd k) s (inl (holds_it old s (Contains-permutation new old s (IsPermutation-sym old new moved) (held new s h)))))
      (λ s h. holds_it new s (Contains-permutation old new s moved (held old s (⊎_elim {C = Holds old s} (λ a. a) (λ b. absurd b) (put_all_from old none s h)))))

-- a list that is sorted by what is made of its members
pub sorted_map : {X A : Type 0} (cmp : A → A → Ordering) (f : X → A) (xs : List X) → IsSorted (λ x y. cmp (f x) (f y)) xs → IsSorted cmp (map f xs)
sorted_map cmp f [] h = λ k d low high. absurd (omega (arith, high))
sorted_map {X} {A} cmp f (x ∷ xs) h = λ k d low high.
    let size : length (map f (x ∷ xs)) ≡ length (x ∷ xs) = length-map (x ∷ xs) f in
    let next = at (x ∷ xs) (k + 1) d x (omega (arith, size, high)) in
    let here = at (x ∷ xs) k d x (omega (arith, size, high)) in
    ap (λ (g : A × A). is_lt (cmp g.0 g.1)) (λ i. (next i, here i)) ∙ h k x low (omega (arith, size, high))
  where
    at : (xs : List X) (k : ℕ) (d : A) (e : X) → k < length xs → get_or (map f xs) k d ≡ f (get_or xs k e)
    at [] k d e h = absurd (omega (arith, h))
    at (x ∷ xs) zero d e h = refl
    at (x ∷ xs) (suc k) d e h = at xs k d e (omega (arith, h))

-- ---- filters

filter_holds : {A : Type 0} (p : A → Bool) (xs : List A) (s : A) → Holds xs s → p s ≡ true → Holds (filter p xs) s
filter_holds p [] s h e = h
filter_holds p (x ∷ xs) s h e =
    elim (p x) as (λ b. p x ≡ b → Holds (cond b (x ∷ filter p xs) (filter p xs)) s) [
      | true ↦ λ k. ⊎_elim {C = Holds (x ∷ filter p xs) s} (λ a. inl a) (λ r. inr (filter_holds p xs s r e)) h
      | false ↦ λ k. ⊎_elim {C = Holds (filter p xs) s} (λ a. let w : true ≡ false = sym e ∙ ap p a ∙ k in cc) (λ r. filter_holds p xs s r e) h
    ] refl

holds_filter : {A : Type 0} (p : A → Bool) (xs : List A) (s : A) → Holds (filter p xs) s → Holds xs s × (p s ≡ true)
holds_filter p [] s h = absurd h
holds_filter p (x ∷ xs) s h =
    (elim (p x) as (λ b. p x ≡ b → Holds (cond b (x ∷ filter p xs) (filter p xs)) s → Holds (x ∷ xs) s × (p s ≡ true)) [
      | true ↦ λ k m. ⊎_elim {C = Holds (x ∷ xs) s × (p s ≡ true)} (λ a. (inl a, ap p a ∙ k)) (λ r. let f = holds_filter p xs s r in (inr f.0, f.1)) m
      | false ↦ λ k m. let f = holds_filter p xs s m in (inr f.0, f.1)
    ]) refl h

module _ {A : Type 0} (cmp : A → A → Ordering) (total : IsTotalOrder cmp) where
  -- a list in order stays as it is
  pub ordered_again : (xs : List A) → IsStrictlySortedBy cmp xs → in_order cmp xs ≡ xs
  ordered_again xs up =
      let none : List A = [] in
      one_list cmp total (in_order cmp xs) xs (put_all_ordered cmp total xs none (nothing_ordered cmp total)) up
      (λ s h. ⊎_elim {C = Holds xs s} (λ a. a) (λ b. absurd b) (put_all_from cmp total xs none s h))
      (λ s h. put_all_holds cmp total (Holds xs) (distinct_single cmp total xs (IsDistinct-from_sorted cmp xs up)) xs none (λ u k. k) (λ u k. absurd k) s (inl h))

  -- what a test keeps of a list whose places differ, in order
  pub kept_in_order : (p : A → Bool) (xs : List A) → IsDistinct (eq_by_cmp cmp) xs → in_order cmp (filter p xs) ≡ filter p (in_order cmp xs)
  kept_in_order p xs apart =
      let none : List A = [] in
      let single = distinct_single cmp total xs apart in
      one_list cmp total (in_order cmp (filter p xs)) (filter p (in_order cmp xs))
      (put_all_ordered cmp total (filter p xs) none (nothing_ordered cmp total))
      (IsStrictlySortedBy-filter cmp p (in_order cmp xs) (put_all_ordered cmp total xs none (nothing_ordered cmp total)))
      (λ s h.
      let from : Holds (filter p xs) s = ⊎_elim {C = Holds (filter p xs) s} (λ a. a) (λ b. absurd b) (put_all_from cmp total (filter p xs) none s h) in
      let f = holds_filter p xs s from in
      filter_holds p (in_order cmp xs) s (put_all_holds cmp total (Holds xs) single xs none (λ u k. k) (λ u k. absurd k) s (inl f.0)) f.1)
      (λ s h.
      let f = holds_filter p (in_order cmp xs) s h in
      let from : Holds xs s = ⊎_elim {C = Holds xs s} (λ a. a) (λ b. absurd b) (put_all_from cmp total xs none s f.0) in
      put_all_holds cmp total (Holds xs) single (filter p xs) none (λ u k. (holds_filter p xs u k).0) (λ u k. absurd k) s (inl (filter_holds p xs s from f.1)))

  -- members in order are members
  pub in_order_from : (xs : List A) (s : A) → Holds (in_order cmp xs) s → Holds xs s
  in_order_from xs s h = let none : List A = [] in ⊎_elim {C = Holds xs s} (λ a. a) (λ b. absurd b) (put_all_from cmp total xs none s h)

  pub in_order_rises : (xs : List A) → IsStrictlySortedBy cmp (in_order cmp xs)
  in_order_rises xs = let none : List A = [] in put_all_ordered cmp total xs none (nothing_ordered cmp total)
