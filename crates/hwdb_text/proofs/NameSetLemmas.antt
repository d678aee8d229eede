-- Names as sets.
use Rattle.std.proofs.Common.{◌≡◌, ℕ, ◌<◌, Bool, true, false, List, [], ◌∷◌, ◌++◌, refl, ap, ◌∙◌, sym, subst, cond, ◌||◌, inl, inr, filter}
use Rattle.std.proofs.lemmas.Bool.{cases_Bool}
use Rattle.std.proofs.lemmas.Cmp.{nat_list_cmp_total, tied_itself}
use Rattle.std.specs.Ordering.{nat_cmp, is_eq, is_lt, match_ordering, ordering_reverse, MatchOrdering}
use Rattle.std.specs.declared.cmp.Ordering.{Ordering}
use Rattle.std.specs.declared.cmp.Ordering.TheVariants.{Less, Equal, Greater}
use Rattle.std.specs.Cmp.Lexicographic.{slice_cmp}
use Rattle.hwdb_spec.specs.Folders.{counts, same, lists}
use Rattle.hwdb_spec.specs.Assignment.{ascending, put, text_cmp}
use Rattle.hwdb_text.specs.Laws.{is_smaller, NamesAreThoseThatCount, IsBelow, Ascends, NamesAscend, OneAscendingList}
use Rattle.hwdb_text.specs.Internal.Choosing.{with_name}
use Rattle.hwdb_spec.specs.Lemmas.Orders.{less_of, same_itself, same_text}
use Rattle.hwdb_spec.specs.Lemmas.Truth.{or_assoc}

pub greater_of : (o : Ordering) → is_lt o ≡ false → is_eq o ≡ false → o ≡ Greater
greater_of Less e f = cc
greater_of Equal e f = cc
greater_of Greater e f = refl

pub nat_equal_by : (o : Ordering) (x y : ℕ) → MatchOrdering o (x < y) (x ≡ y) (y < x) → o ≡ Equal → x ≡ y
nat_equal_by Less x y m e = cc
nat_equal_by Equal x y m e = m
nat_equal_by Greater x y m e = cc

pub smaller_trans : (a b c : List ℕ) → is_smaller a b ≡ true → is_smaller b c ≡ true → is_smaller a c ≡ true
smaller_trans a b c e f = ap is_lt (nat_list_cmp_total.trans a b c (less_of (slice_cmp nat_cmp a b) e) (less_of (slice_cmp nat_cmp b c) f))

-- a name isn't smaller than itself, and of two names at most one is smaller
pub smaller_itself : (n : List ℕ) → is_smaller n n ≡ false
smaller_itself n = ap is_lt (tied_itself nat_list_cmp_total n)

pub smaller_not_same : (a b : List ℕ) → is_smaller a b ≡ true → same a b ≡ false
smaller_not_same a b e = ap is_eq (less_of (slice_cmp nat_cmp a b) e)

pub smaller_back : (a b : List ℕ) → is_smaller a b ≡ true → is_smaller b a ≡ false
smaller_back a b e = ap is_lt (nat_list_cmp_total.antisymm b a ∙ ap ordering_reverse (less_of (slice_cmp nat_cmp a b) e))

other_smaller : (a b : List ℕ) → is_smaller a b ≡ false → same a b ≡ false → is_smaller b a ≡ true
other_smaller a b e f = ap is_lt (nat_list_cmp_total.antisymm b a ∙ ap ordering_reverse (greater_of (slice_cmp nat_cmp a b) e f))

or_again : (a b l : Bool) → a ≡ b → (a || l) ≡ (b || (a || l))
or_again true true l e = refl
or_again false false l e = refl
or_again true false l e = cc
or_again false true l e = cc

or_swap : (a b l : Bool) → (a || (b || l)) ≡ (b || (a || l))
or_swap true true l = refl
or_swap true false l = refl
or_swap false true l = refl
or_swap false false l = refl

or_cond : (a b : Bool) → (a || b) ≡ cond a true b
or_cond true b = refl
or_cond false b = refl

lists_with_by : (n k m : List ℕ) (more rest : List (List ℕ)) (s t : Bool) → (t ≡ true → same m n ≡ same k n) → lists n rest ≡ (same k n || lists n more)
    → lists n (cond s (k ∷ (m ∷ more)) (cond t (m ∷ more) (m ∷ rest))) ≡ (same k n || (same m n || lists n more))
lists_with_by n k m more rest true t e i = refl
lists_with_by n k m more rest false true e i = or_again (same m n) (same k n) (lists n more) (e refl)
lists_with_by n k m more rest false false e i = ap (λ (b : Bool). same m n || b) i ∙ or_swap (same m n) (same k n) (lists n more)

pub lists_with_name : (n k : List ℕ) (set : List (List ℕ)) → lists n (with_name k set) ≡ (same k n || lists n set)
lists_with_name n k [] = refl
lists_with_name n k (m ∷ more) =
    lists_with_by n k m more (with_name k more) (is_smaller k m) (same k m) (λ e. ap (λ (x : List ℕ). same x n) (sym (same_text k m e))) (lists_with_name n k more)

put_by : {A : Type 0} (o : Ordering) (a b c : A) → match_ordering o a b c ≡ cond (is_lt o) a (cond (is_eq o) b c)
put_by Less a b c = refl
put_by Equal a b c = refl
put_by Greater a b c = refl

-- a name is put among ascending ones as any text is
pub put_is : (k : List ℕ) (set : List (List ℕ)) → put text_cmp k set ≡ with_name k set
unfolding put
put_is k [] = refl
put_is k (m ∷ more) =
    put_by (text_cmp k m) (k ∷ m ∷ more) (m ∷ more) (m ∷ put text_cmp k more)
    ∙ ap (λ r. cond (is_smaller k m) (k ∷ m ∷ more) (cond (same k m) (m ∷ more) (m ∷ r))) (put_is k more)

lists_ascending : (n : List ℕ) (set : List (List ℕ)) → lists n (ascending set) ≡ lists n set
unfolding ascending
lists_ascending n [] = refl
lists_ascending n (k ∷ more) = ap (lists n) (put_is k (ascending more)) ∙ lists_with_name n k (ascending more) ∙ ap (λ (b : Bool). same k n || b) (lists_ascending n more)

pub lists_append : (n : List ℕ) (xs ys : List (List ℕ)) → lists n (xs ++ ys) ≡ (lists n xs || lists n ys)
lists_append n [] ys = refl
lists_append n (x ∷ xs) ys = ap (λ (b : Bool). same x n || b) (lists_append n xs ys) ∙ or_assoc (same x n) (lists n xs) (lists n ys)

filtered_by : (s c d f l : Bool) → (s ≡ true → c ≡ d) → f ≡ cond d l false → cond c (s || f) f ≡ cond d (s || l) false
filtered_by true true true f l e i = refl
filtered_by true true false f l e i = let k : true ≡ false = e refl in cc
filtered_by true false true f l e i = let k : false ≡ true = e refl in cc
filtered_by true false false f l e i = i
filtered_by false true true f l e i = i
filtered_by false true false f l e i = i
filtered_by false false true f l e i = i
filtered_by false false false f l e i = i

lists_cond : (n x : List ℕ) (c : Bool) (fs : List (List ℕ)) → lists n (cond c (x ∷ fs) fs) ≡ cond c (same x n || lists n fs) (lists n fs)
lists_cond n x true fs = refl
lists_cond n x false fs = refl

pub lists_filter : (n : List ℕ) (set : List (List ℕ)) → lists n (filter counts set) ≡ cond (counts n) (lists n set) false
lists_filter n [] = none (counts n) where
  none : (c : Bool) → false ≡ cond c false false
  none true = refl
  none false = refl
lists_filter n (x ∷ more) =
    lists_cond n x (counts x) (filter counts more)
    ∙ filtered_by (same x n) (counts x) (counts n) (lists n (filter counts more)) (lists n more) (λ e. ap counts (same_text x n e)) (lists_filter n more)

pub names_are_those_that_count : NamesAreThoseThatCount
names_are_those_that_count etc usr n =
    lists_ascending n (filter counts (etc ++ usr)) ∙ lists_filter n (etc ++ usr)
    ∙ ap (λ (b : Bool). cond (counts n) b false) (lists_append n etc usr ∙ or_cond (lists n etc) (lists n usr))

below_more : (k a : List ℕ) (set : List (List ℕ)) → is_smaller k a ≡ true → IsBelow a set → IsBelow k set
below_more k a [] h b = tt
below_more k a (n ∷ more) h b = (smaller_trans k a n h b.0, below_more k a more h b.1)

below_with_by : (a k m : List ℕ) (more rest : List (List ℕ)) (s t : Bool) → is_smaller a k ≡ true → IsBelow a (m ∷ more) → IsBelow a rest
    → IsBelow a (cond s (k ∷ (m ∷ more)) (cond t (m ∷ more) (m ∷ rest)))
below_with_by a k m more rest true t h b r = (h, b)
below_with_by a k m more rest false true h b r = b
below_with_by a k m more rest false false h b r = (b.0, r)

below_with_name : (a k : List ℕ) (set : List (List ℕ)) → is_smaller a k ≡ true → IsBelow a set → IsBelow a (with_name k set)
below_with_name a k [] h b = (h, tt)
below_with_name a k (m ∷ more) h b = below_with_by a k m more (with_name k more) (is_smaller k m) (same k m) h b (below_with_name a k more h b.1)

ascends_with_by : (k m : List ℕ) (more : List (List ℕ)) (s t : Bool) → is_smaller k m ≡ s → same k m ≡ t → Ascends (m ∷ more) → Ascends (with_name k more)
    → Ascends (cond s (k ∷ (m ∷ more)) (cond t (m ∷ more) (m ∷ with_name k more)))
ascends_with_by k m more true t e f a i = ((e, below_more k m more e a.0), a)
ascends_with_by k m more false true e f a i = a
ascends_with_by k m more false false e f a i = (below_with_name m k more (other_smaller k m e f) a.0, i)

pub ascends_with_name : (k : List ℕ) (set : List (List ℕ)) → Ascends set → Ascends (with_name k set)
ascends_with_name k [] a = (tt, tt)
ascends_with_name k (m ∷ more) a = ascends_with_by k m more (is_smaller k m) (same k m) refl refl a (ascends_with_name k more a.1)

ascends_ascending : (set : List (List ℕ)) → Ascends (ascending set)
unfolding ascending
ascends_ascending [] = tt
ascends_ascending (n ∷ more) = subst Ascends (sym (put_is n (ascending more))) (ascends_with_name n (ascending more) (ascends_ascending more))

pub names_ascend : NamesAscend
names_ascend etc usr = ascends_ascending (filter counts (etc ++ usr))

or_true : (a b : Bool) → (a || b) ≡ true → (a ≡ true → ⊥) → b ≡ true
or_true true b e n = absurd (n refl)
or_true false b e n = e

-- what a name is below of some names is below each that is listed
pub below_listed : (a n : List ℕ) (set : List (List ℕ)) → IsBelow a set → lists n set ≡ true → is_smaller a n ≡ true
below_listed a n [] b e = cc
below_listed a n (m ∷ more) b e = elim (cases_Bool (same m n)) [
  | inl s ↦ let P : List ℕ → Type 0 = λ x. is_smaller a x ≡ true in subst P (same_text m n s) b.0
  | inr s ↦ below_listed a n more b.1 (or_true (same m n) (lists n more) e (λ t. let k : false ≡ true = sym s ∙ t in cc))
]

lists_first : (x : List ℕ) (xs : List (List ℕ)) → lists x (x ∷ xs) ≡ true
lists_first x xs = rw (same_itself x) refl

pub not_in_rest : (x : List ℕ) (xs : List (List ℕ)) → IsBelow x xs → lists x xs ≡ false
not_in_rest x xs b = elim (cases_Bool (lists x xs)) [
  | inl l ↦ let k : true ≡ false = sym (below_listed x x xs b l) ∙ smaller_itself x in cc
  | inr l ↦ l
]

or_rest : (s a b : Bool) → (s ≡ true → a ≡ b) → (s || a) ≡ (s || b) → a ≡ b
or_rest true a b e h = e refl
or_rest false a b e h = h

rests_agree : (x : List ℕ) (xs ys : List (List ℕ)) → IsBelow x xs → IsBelow x ys → ((n : List ℕ) → lists n (x ∷ xs) ≡ lists n (x ∷ ys)) → (n : List ℕ) → lists n xs ≡ lists n ys
rests_agree x xs ys a b h n =
    or_rest (same x n) (lists n xs) (lists n ys)
    (λ s. let P : List ℕ → Type 0 = λ m. lists m xs ≡ lists m ys in subst P (same_text x n s) (not_in_rest x xs a ∙ sym (not_in_rest x ys b)))
    (h n)

first_is_same : (x y : List ℕ) (xs ys : List (List ℕ)) → IsBelow x xs → IsBelow y ys → lists x (y ∷ ys) ≡ true → lists y (x ∷ xs) ≡ true → x ≡ y
first_is_same x y xs ys a b l m = elim (cases_Bool (same x y)) [
  | inl s ↦ same_text x y s
  | inr s ↦
      let less : is_smaller x y ≡ true = below_listed x y xs a (or_true (same x y) (lists y xs) m (λ t. let k : false ≡ true = sym s ∙ t in cc)) in
      elim (cases_Bool (same y x)) [
        | inl t ↦ sym (same_text y x t)
        | inr t ↦
            let more : is_smaller y x ≡ true = below_listed y x ys b (or_true (same y x) (lists x ys) l (λ u. let k : false ≡ true = sym t ∙ u in cc)) in
            let k : true ≡ false = sym more ∙ smaller_back x y less in cc
      ]
]

pub one_ascending_list : OneAscendingList
one_ascending_list [] [] a b h = refl
one_ascending_list [] (y ∷ ys) a b h = let k : false ≡ true = h y ∙ lists_first y ys in cc
one_ascending_list (x ∷ xs) [] a b h = let k : true ≡ false = sym (lists_first x xs) ∙ h x in cc
one_ascending_list (x ∷ xs) (y ∷ ys) a b h =
    let e : x ≡ y = first_is_same x y xs ys a.0 b.0 (sym (h x) ∙ lists_first x xs) (h y ∙ lists_first y ys) in
    let P : List ℕ → Type 0 = λ z. IsBelow z ys in
    let Q : List ℕ → Type 0 = λ z. (n : List ℕ) → lists n (x ∷ xs) ≡ lists n (z ∷ ys) in
    ap (λ (z : List ℕ). z ∷ xs) e
    ∙ ap (λ (zs : List (List ℕ)). y ∷ zs) (one_ascending_list xs ys a.1 b.1 (rests_agree x xs ys a.0 (subst P (sym e) b.0) (subst Q (sym e) h)))
