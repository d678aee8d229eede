-- Faults in order: a list that is sorted and has the same faults is the one list that the definition gives.
use Rattle.std.proofs.Common.{◌≡◌, ℕ, ◌+◌, ◌<◌, suc, Bool, true, false, List, [], ◌∷◌, refl, ap, ◌∙◌, sym, subst, cond, inl, inr, length, get_or, arith, ◌==◌, IsPermutation, sum_by}
use Rattle.std.proofs.lemmas.Bool.{cases_Bool}
use Rattle.std.proofs.lemmas.Cmp.{nat_cmp_total, then_total, on_total, ranked, tied_itself, upto}
use Rattle.std.proofs.lemmas.List.Sums.{sum_by-cons}
use Rattle.std.proofs.lemmas.List.Sorted.{ranks_by, sorted_far, sum_by-IsPermutation, IsPermutation-refl, IsPermutation-cons, IsPermutation-trans, IsPermutation-swap}
use Rattle.std.specs.Cmp.{IsTotalOrder, IsStrictWeakOrder}
use Rattle.std.specs.List.Sorted.{IsSorted}
use Rattle.std.specs.Ordering.{nat_cmp, is_eq, is_lt, is_gt, ordering_reverse}
use Rattle.std.specs.declared.cmp.Ordering.{Ordering}
use Rattle.std.specs.declared.cmp.Ordering.TheVariants.{Less, Equal, Greater}
use Rattle.hwdb_spec.specs.declared.Fault.{Fault}
use Rattle.hwdb_spec.specs.declared.FaultKind.{FaultKind}
use Rattle.hwdb_spec.specs.declared.FaultKind.TheVariants.{StrayProperty, NoProperty, StrayMatch, NoEquals, EmptyKey, ZeroByte, LongMatch}
use Rattle.hwdb_spec.specs.Records.{fault_number, fault_cmp, with_fault, by_line, all_faults}
use Rattle.hwdb_text.specs.Laws.{FaultsAreAll}
use Rattle.hwdb_text.proofs.NameSetLemmas.{greater_of, nat_equal_by}
use Rattle.hwdb_spec.specs.Lemmas.Orders.{equal_of, then_equal}

kind_at : ℕ → FaultKind
kind_at n =
    cond (n == 1) StrayProperty (cond (n == 2) NoProperty (cond (n == 3) StrayMatch (cond (n == 4) NoEquals (cond (n == 5) EmptyKey (cond (n == 6) ZeroByte LongMatch)))))

kind_back : (k : FaultKind) → kind_at (fault_number k) ≡ k
unfolding kind_at
kind_back StrayProperty = refl
kind_back NoProperty = refl
kind_back StrayMatch = refl
kind_back NoEquals = refl
kind_back EmptyKey = refl
kind_back ZeroByte = refl
kind_back LongMatch = refl

kind_equal : (a b : FaultKind) → fault_number a ≡ fault_number b → a ≡ b
kind_equal a b e = sym (kind_back a) ∙ ap kind_at e ∙ kind_back b

nat_equal : (x y : ℕ) → nat_cmp x y ≡ Equal → x ≡ y
nat_equal x y e = nat_equal_by (nat_cmp x y) x y (ranked x y (nat_cmp x y) refl) e

pub fault_equal : (f g : Fault) → is_eq (fault_cmp f g) ≡ true → f ≡ g
fault_equal f g e =
    let t = then_equal (nat_cmp f.line g.line) (nat_cmp (fault_number f.kind) (fault_number g.kind)) (equal_of (fault_cmp f g) e) in
    ap (λ (n : ℕ). let r : Fault = record { line = n; kind = f.kind } in r) (nat_equal f.line g.line t.0)
    ∙ ap (λ (k : FaultKind). let r : Fault = record { line = g.line; kind = k } in r) (kind_equal f.kind g.kind (nat_equal (fault_number f.kind) (fault_number g.kind) t.1))

pub fault_total : IsTotalOrder fault_cmp
fault_total = then_total (on_total (λ (f : Fault). f.line) nat_cmp_total) (on_total (λ (f : Fault). fault_number f.kind) nat_cmp_total)

fault_weak : IsStrictWeakOrder (λ f g. is_lt (fault_cmp f g))
fault_weak = ranks_by fault_total (λ (f : Fault). f)

-- none of some faults comes before the one given
abbrev pub AllFrom : Fault → List Fault → Type 0
AllFrom f [] = Unit {0}
AllFrom f (g ∷ more) = (is_lt (fault_cmp g f) ≡ false) × AllFrom f more

abbrev pub Up : List Fault → Type 0
Up [] = Unit {0}
Up (f ∷ more) = AllFrom f more × Up more

all_from : (f : Fault) (more : List Fault) → ((k : ℕ) (d : Fault) → k < length more → is_lt (fault_cmp (get_or more k d) f) ≡ false) → AllFrom f more
all_from f [] h = tt
all_from f (g ∷ more) h = (h 0 f (omega arith), all_from f more (λ k d l. h (suc k) d (omega arith)))

sorted_rest : (f : Fault) (more : List Fault) → IsSorted fault_cmp (f ∷ more) → IsSorted fault_cmp more
sorted_rest f more s k d l h =
    let t : is_lt (fault_cmp (get_or (f ∷ more) (suc k + 1) d) (get_or (f ∷ more) (suc k) d)) ≡ false = s (suc k) d (omega arith) (omega arith) in
    let e : suc k + 1 ≡ suc (k + 1) = omega arith in
    let P : ℕ → Type 0 = λ n. is_lt (fault_cmp (get_or (f ∷ more) n d) (get_or more k d)) ≡ false in subst P e t

up_of : (fs : List Fault) → IsSorted fault_cmp fs → Up fs
up_of [] s = tt
up_of (f ∷ more) s = (
  all_from f more (λ k d l. sorted_far (λ f g. is_lt (fault_cmp f g)) fault_weak (f ∷ more) s 0 (suc k) d (omega arith) (omega arith)),
  up_of more (sorted_rest f more s),
)

-- how often a list has a fault
abbrev is_it : Fault → Fault → ℕ
is_it f g = cond (is_eq (fault_cmp f g)) 1 0

abbrev tally : Fault → List Fault → ℕ
tally f fs = sum_by (is_it f) fs

tally_cons : (f g : Fault) (fs : List Fault) → tally f (g ∷ fs) ≡ is_it f g + tally f fs
tally_cons f g fs = sum_by-cons (is_it f) g fs

itself : (f : Fault) → is_it f f ≡ 1
itself f = ap (λ (o : Ordering). cond (is_eq o) 1 0) (tied_itself fault_total f)

listed_from : (f x : Fault) (fs : List Fault) → AllFrom f fs → 0 < tally x fs → is_lt (fault_cmp x f) ≡ false
listed_from f x [] a h = absurd (omega arith)
listed_from f x (g ∷ fs) a h = elim (cases_Bool (is_eq (fault_cmp x g))) [
  | inl e ↦ ap (λ (y : Fault). is_lt (fault_cmp y f)) (fault_equal x g e) ∙ a.0
  | inr e ↦ listed_from f x fs a.1 (let z : is_it x g ≡ 0 = ap (λ (b : Bool). cond b 1 0) e in let t = tally_cons x g fs in omega arith)
]

first_is_same : (x y : Fault) (xs ys : List Fault) → AllFrom x xs → AllFrom y ys → 0 < tally x (y ∷ ys) → 0 < tally y (x ∷ xs) → x ≡ y
first_is_same x y xs ys a b h k = elim (cases_Bool (is_eq (fault_cmp x y))) [
  | inl e ↦ fault_equal x y e
  | inr e ↦
      let z : is_it x y ≡ 0 = ap (λ (b : Bool). cond b 1 0) e in
      let tx = tally_cons x y ys in
      let ty = tally_cons y x xs in
      let below : is_lt (fault_cmp x y) ≡ false = listed_from y x ys b (omega arith) in
      let above : fault_cmp x y ≡ Greater = greater_of (fault_cmp x y) below e in
      let less : fault_cmp y x ≡ Less = fault_total.antisymm y x ∙ ap ordering_reverse above in
      let w : is_it y x ≡ 0 = ap (λ (o : Ordering). cond (is_eq o) 1 0) less in
      let no : is_lt (fault_cmp y x) ≡ false = listed_from x y xs a (omega arith) in
      let c : true ≡ false = sym (ap is_lt less) ∙ no in cc
]

same_tallies : (xs ys : List Fault) → Up xs → Up ys → ((x : Fault) → tally x xs ≡ tally x ys) → xs ≡ ys
same_tallies [] [] u v h = refl
same_tallies [] (y ∷ ys) u v h = let e = itself y in let t = tally_cons y y ys in let f : 0 ≡ tally y (y ∷ ys) = h y in absurd (omega arith)
same_tallies (x ∷ xs) [] u v h = let e = itself x in let t = tally_cons x x xs in let f : tally x (x ∷ xs) ≡ 0 = h x in absurd (omega arith)
same_tallies (x ∷ xs) (y ∷ ys) u v h =
    let ex = itself x in
    let ey = itself y in
    let hx : tally x (x ∷ xs) ≡ tally x (y ∷ ys) = h x in
    let hy : tally y (x ∷ xs) ≡ tally y (y ∷ ys) = h y in
    let xx = tally_cons x x xs in
    let xy = tally_cons x y ys in
    let yx = tally_cons y x xs in
    let yy = tally_cons y y ys in
    let e : x ≡ y = first_is_same x y xs ys u.0 v.0 (omega arith) (omega arith) in
    ap (λ (f : Fault). f ∷ xs) e
    ∙ ap (λ (r : List Fault). y ∷ r) (same_tallies xs ys u.1 v.1 (λ z.
    let zx = tally_cons z x xs in
    let zy = tally_cons z y ys in
    let q : is_it z x ≡ is_it z y = ap (is_it z) e in
    let r : tally z (x ∷ xs) ≡ tally z (y ∷ ys) = h z in omega arith))

all_from_with_by : (f g h : Fault) (more rest : List Fault) (b : Bool) → is_lt (fault_cmp f h) ≡ false → AllFrom h (g ∷ more) → AllFrom h rest → AllFrom h (cond b (g ∷ rest) (f ∷ (g ∷ more)))
all_from_with_by f g h more rest true l a r = (a.0, r)
all_from_with_by f g h more rest false l a r = (l, a)

all_from_with : (f h : Fault) (fs : List Fault) → is_lt (fault_cmp f h) ≡ false → AllFrom h fs → AllFrom h (with_fault f fs)
all_from_with f h [] l a = (l, tt)
all_from_with f h (g ∷ more) l a = all_from_with_by f g h more (with_fault f more) (is_gt (fault_cmp f g)) l a (all_from_with f h more l a.1)

not_above : (o : Ordering) → is_gt o ≡ false → is_lt (ordering_reverse o) ≡ false
not_above Less e = refl
not_above Equal e = refl
not_above Greater e = cc

not_below : (o : Ordering) → is_gt o ≡ true → is_lt o ≡ false
not_below Less e = cc
not_below Equal e = refl
not_below Greater e = refl

back_not : (o : Ordering) → is_lt o ≡ false → is_gt (ordering_reverse o) ≡ false
back_not Less e = cc
back_not Equal e = refl
back_not Greater e = refl

upto_not : (g f h : Fault) → is_lt (fault_cmp g f) ≡ false → is_lt (fault_cmp h g) ≡ false → is_lt (fault_cmp h f) ≡ false
upto_not g f h p q =
    ap is_lt (fault_total.antisymm h f)
    ∙ not_above (fault_cmp f h)
    (upto fault_total f g h (ap is_gt (fault_total.antisymm f g) ∙ back_not (fault_cmp g f) p) (ap is_gt (fault_total.antisymm g h) ∙ back_not (fault_cmp h g) q))

-- what comes from a fault on comes from each that isn't above it
all_from_more : (f g : Fault) (fs : List Fault) → is_gt (fault_cmp f g) ≡ false → AllFrom g fs → AllFrom f fs
all_from_more f g [] e a = tt
all_from_more f g (h ∷ fs) e a = (
  upto_not g f h (ap is_lt (fault_total.antisymm g f) ∙ not_above (fault_cmp f g) e) a.0,
  all_from_more f g fs e a.1,
)

up_with : (f : Fault) (fs : List Fault) → Up fs → Up (with_fault f fs)
up_with f [] u = (tt, tt)
up_with f (g ∷ more) u = elim (cases_Bool (is_gt (fault_cmp f g))) [
  | inl e ↦
      let P : Bool → Type 0 = λ b. Up (cond b (g ∷ with_fault f more) (f ∷ (g ∷ more))) in
      subst P (sym e) (all_from_with f g more (not_below (fault_cmp f g) e) u.0, up_with f more u.1)
  | inr e ↦
      let P : Bool → Type 0 = λ b. Up (cond b (g ∷ with_fault f more) (f ∷ (g ∷ more))) in
      subst P (sym e) ((ap is_lt (fault_total.antisymm g f) ∙ not_above (fault_cmp f g) e, all_from_more f g more e u.0), u)
]

pub up_in_order : (fs : List Fault) → Up (by_line fs)
up_in_order [] = tt
up_in_order (f ∷ more) = up_with f (by_line more) (up_in_order more)

moved_with_by : (f g : Fault) (more rest : List Fault) (b : Bool) → IsPermutation (f ∷ more) rest → IsPermutation (f ∷ (g ∷ more)) (cond b (g ∷ rest) (f ∷ (g ∷ more)))
moved_with_by f g more rest true p =
    IsPermutation-trans (f ∷ (g ∷ more)) (g ∷ (f ∷ more)) (g ∷ rest)
    (IsPermutation-swap (f ∷ (g ∷ more)) (g ∷ (f ∷ more)) 0 1 (omega arith) (omega arith) refl)
    (IsPermutation-cons g (f ∷ more) rest p)
moved_with_by f g more rest false p = IsPermutation-refl (f ∷ (g ∷ more))

moved_with : (f : Fault) (fs : List Fault) → IsPermutation (f ∷ fs) (with_fault f fs)
moved_with f [] = IsPermutation-refl (f ∷ [])
moved_with f (g ∷ more) = moved_with_by f g more (with_fault f more) (is_gt (fault_cmp f g)) (moved_with f more)

moved_in_order : (fs : List Fault) → IsPermutation fs (by_line fs)
moved_in_order [] = IsPermutation-refl []
moved_in_order (f ∷ more) =
    IsPermutation-trans (f ∷ more) (f ∷ by_line more) (with_fault f (by_line more)) (IsPermutation-cons f more (by_line more) (moved_in_order more)) (moved_with f (by_line more))

pub faults_are_all : FaultsAreAll
faults_are_all file = moved_in_order (all_faults file)

-- a list in order that has the same faults is theirs in order
pub in_order_is : (fs gs : List Fault) → IsPermutation fs gs → IsSorted fault_cmp gs → gs ≡ by_line fs
in_order_is fs gs p s =
    same_tallies gs (by_line fs) (up_of gs s) (up_in_order fs)
    (λ x. sum_by-IsPermutation (is_it x) fs gs p ∙ sym (sum_by-IsPermutation (is_it x) fs (by_line fs) (moved_in_order fs)))
