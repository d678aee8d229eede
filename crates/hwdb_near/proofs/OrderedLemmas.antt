-- What a sort and a dedup leave: a list in order, each place once, is determined by its members.
use Rattle.std.proofs.Common.{◌≡◌, suc, List, [], ◌∷◌, map, true, refl, sym, ◌∙◌, ap, subst, arith, Ordering, inl, inr, ◌⊎◌, ⊎_elim}
use Rattle.std.specs.declared.cmp.Ordering.TheVariants.{Less, Equal, Greater}
use Rattle.std.specs.Cmp.{IsTotalOrder, eq_by_cmp_equiv}
use Rattle.std.specs.Ordering.{eq_by_cmp, is_eq}
use Rattle.std.specs.List.{AllByRecursion, Contains, dedup}
use Rattle.std.specs.List.Sorted.{IsStrictlySortedBy, IsSorted, IsPermutation}
use Rattle.std.proofs.lemmas.List.Kept.{IsStrictlySortedBy-dedup, Any-dedup, Contains-from_dedup}
use Rattle.std.proofs.lemmas.List.Sorted.{Contains-permutation, IsPermutation-sym}
use Rattle.hwdb_spec.specs.Assignment.{in_order}
use Rattle.hwdb_text.specs.Lemmas.Members.{Holds, holds_it, one_list, put_all_from, put_all_holds, put_all_ordered, nothing_ordered}

-- ---- members of a list that something is made of

record Made {X A : Type 0} (f : X → A) (xs : List X) (s : A) : Type 0 where
  pub from : X
  pub has : Contains xs from
  pub is : s ≡ f from

made_of : {X A : Type 0} (f : X → A) (xs : List X) (s : A) → Holds (map f xs) s → Made f xs s
made_of f [] s h = absurd h
made_of {X} {A} f (x ∷ xs) s h =
    ⊎_elim {C = Made f (x ∷ xs) s} (λ e. record { from = x; has = (0, omega arith, refl); is = e })
    (λ r. let m : Made f xs s = made_of f xs s r in record { from = m.from; has = (suc m.has.0, omega (arith, m.has.1), m.has.2); is = m.is }) h

holds_made : {X A : Type 0} (f : X → A) (xs : List X) (x : X) → Holds xs x → Holds (map f xs) (f x)
holds_made f [] x h = absurd h
holds_made {X} {A} f (y ∷ xs) x h = ⊎_elim {C = Holds (map f (y ∷ xs)) (f x)} (λ e. inl (ap f e)) (λ r. inr (holds_made f xs x r)) h

all_made : {X A : Type 0} (f : X → A) (P : A → Type 0) (xs : List X) → AllByRecursion (λ x. P (f x)) xs → AllByRecursion P (map f xs)
all_made f P [] a = tt
all_made f P (x ∷ xs) a = (a.0, all_made f P xs a.1)

strictly_made : {X A : Type 0} (f : X → A) (cmp : A → A → Ordering) (xs : List X) → IsStrictlySortedBy (λ x y. cmp (f x) (f y)) xs → IsStrictlySortedBy cmp (map f xs)
unfolding IsStrictlySortedBy
strictly_made f cmp [] o = tt
strictly_made f cmp (x ∷ xs) o = (all_made f (λ y. cmp (f x) y ≡ Less) xs o.0, strictly_made f cmp xs o.1)

-- what a sort and a dedup leave, by what is made of the members
module _ {X A : Type 0} (f : X → A) (cmp : A → A → Ordering) (total : IsTotalOrder cmp) (by_total : IsTotalOrder (λ x y. cmp (f x) (f y))) (single : (x y : A) → cmp x y ≡ Equal → x ≡ y)
    (old sorted new : List X) (moved : IsPermutation old sorted) (up : IsSorted (λ x y. cmp (f x) (f y)) sorted) (left : new ≡ dedup (eq_by_cmp (λ x y. cmp (f x) (f y))) sorted) where
  tied : (r : Ordering) → is_eq r ≡ true → r ≡ Equal
  tied Less e = cc
  tied Equal e = refl
  tied Greater e = cc

  kept : (s : A) → Holds (map f old) s → Holds (map f new) s
  kept s h =
      let m = made_of f old s h in
      let c = Contains-permutation old sorted m.from moved m.has in
      let a = Any-dedup (eq_by_cmp_equiv by_total) sorted m.from c in
      let same : f m.from ≡ f a.1 = single (f m.from) (f a.1) (tied (cmp (f m.from) (f a.1)) a.4) in
      let one : Holds (map f (dedup (eq_by_cmp (λ x y. cmp (f x) (f y))) sorted)) (f a.1) = holds_made f _ a.1 (holds_it _ a.1 (a.0, a.2, a.3)) in
      let P : List X → Type 0 = λ xs. Holds (map f xs) (f a.1) in
      let Q : A → Type 0 = λ t. Holds (map f new) t in
      subst Q (sym (m.is ∙ same)) (subst P (sym left) one)

  back : (s : A) → Holds (map f new) s → Holds (map f old) s
  back s h =
      let P : List X → Type 0 = λ xs. Holds (map f xs) s in
      let m = made_of f (dedup (eq_by_cmp (λ x y. cmp (f x) (f y))) sorted) s (subst P left h) in
      let c = Contains-permutation sorted old m.from (IsPermutation-sym old sorted moved) (Contains-from_dedup _ sorted m.from m.has) in
      let Q : A → Type 0 = λ t. Holds (map f old) t in
      subst Q (sym m.is) (holds_made f old m.from (holds_it old m.from c))

  strict : IsStrictlySortedBy cmp (map f new)
  strict =
      let P : List X → Type 0 = λ xs. IsStrictlySortedBy (λ x y. cmp (f x) (f y)) xs in
      strictly_made f cmp new (subst P (sym left) (IsStrictlySortedBy-dedup by_total (λ x y. refl) sorted up))

  pub sorted_once : map f new ≡ in_order cmp (map f old)
  sorted_once =
      let none : List A = [] in
      one_list cmp total (map f new) (in_order cmp (map f old)) strict (put_all_ordered cmp total (map f old) none (nothing_ordered cmp total))
      (λ s h. put_all_holds cmp total (λ u. Unit {0}) (λ x y p q e. single x y e) (map f old) none (λ u k. tt) (λ u k. tt) s (inl (back s h)))
      (λ s h. kept s (⊎_elim {C = Holds (map f old) s} (λ a. a) (λ b. absurd b) (put_all_from cmp total (map f old) none s h)))
