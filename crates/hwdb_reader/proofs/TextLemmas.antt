-- Which of two texts in the bytes comes first: the first place at which they differ says it.
use Rattle.std.proofs.Common.{◌≡◌, ◌<◌, ◌+◌, ◌⊎◌, ℕ, zero, suc, List, [], ◌∷◌, get_or, not, cond, refl, sym, ◌∙◌, ap, ap₂, inl, inr, arith, ◌==◌, nat_cmp, is_lt, Ordering, Less, Equal, Greater, true≢false, eq-zero-or-pos, ne_eqb, eq-eqb, lt-ltb, le-ltb}
use Rattle.std.specs.Ordering.{ordering_then}
use Rattle.std.proofs.lemmas.List.Sums.{take_while-cons}
use Rattle.hwdb_spec.specs.Assignment.{text_cmp}
use Rattle.hwdb_spec.specs.Format.{text_at}

text_step : (b : List ℕ) (p : ℕ) → text_at b p ≡ cond (not (get_or b p 0 == 0)) (get_or b p 0 ∷ text_at b (suc p)) []
unfolding text_at
text_step [] zero = refl
text_step [] (suc p) = refl
text_step (x ∷ xs) zero = take_while-cons (λ y. not (y == 0)) x xs
text_step (x ∷ xs) (suc p) = text_step xs p

text_ends : (b : List ℕ) (p : ℕ) → get_or b p 0 ≡ 0 → text_at b p ≡ []
text_ends b p h = text_step b p ∙ ap (λ x. cond (not (x == 0)) (x ∷ text_at b (suc p)) []) h

text_goes : (b : List ℕ) (p : ℕ) → (get_or b p 0 ≡ 0 → ⊥) → text_at b p ≡ get_or b p 0 ∷ text_at b (suc p)
text_goes b p h = text_step b p ∙ ap (λ c. cond (not c) (get_or b p 0 ∷ text_at b (suc p)) []) (ne_eqb (get_or b p 0) 0 h)

nat_less : (x y : ℕ) → x < y → nat_cmp x y ≡ Less
nat_less x y lt = ap (λ c. cond c Less (cond (x == y) Equal Greater)) (lt-ltb x y lt)

nat_same : (x y : ℕ) → x ≡ y → nat_cmp x y ≡ Equal
nat_same x y e = ap (λ c. cond c Less (cond (x == y) Equal Greater)) (le-ltb x y (omega (arith, e))) ∙ ap (λ c. cond c Equal Greater) (eq-eqb x y e)

nat_greater : (x y : ℕ) → y < x → nat_cmp x y ≡ Greater
nat_greater x y lt = ap (λ c. cond c Less (cond (x == y) Equal Greater)) (le-ltb x y (omega arith)) ∙ ap (λ c. cond c Equal Greater) (ne_eqb x y (λ e. omega (arith, e, lt)))

-- two texts that go on
both_go : (b : List ℕ) (p q : ℕ) (r : Ordering) → (get_or b p 0 ≡ 0 → ⊥) → (get_or b q 0 ≡ 0 → ⊥) → nat_cmp (get_or b p 0) (get_or b q 0) ≡ r → text_cmp (text_at b p) (text_at b q) ≡ ordering_then r (text_cmp (text_at b (suc p)) (text_at b (suc q)))
both_go b p q r hp hq is =
    ap₂ (λ s t. text_cmp s t) (text_goes b p hp) (text_goes b q hq) ∙ ap (λ o. ordering_then o (text_cmp (text_at b (suc p)) (text_at b (suc q)))) is

same_head : (b : List ℕ) (p q : ℕ) → get_or b p 0 ≡ get_or b q 0 → (get_or b p 0 ≡ 0 → ⊥) → text_cmp (text_at b p) (text_at b q) ≡ text_cmp (text_at b (suc p)) (text_at b (suc q))
same_head b p q e h = both_go b p q Equal h (λ z. h (e ∙ z)) (nat_same (get_or b p 0) (get_or b q 0) e)

first_below : (b : List ℕ) (p q : ℕ) → get_or b p 0 < get_or b q 0 → text_cmp (text_at b p) (text_at b q) ≡ Less
first_below b p q lt = by (eq-zero-or-pos (get_or b p 0))
  where
    hq : get_or b q 0 ≡ 0 → ⊥
    hq e = omega (arith, e, lt)

    by : (get_or b p 0 ≡ 0) ⊎ (0 < get_or b p 0) → text_cmp (text_at b p) (text_at b q) ≡ Less
    by (inl z) = ap₂ (λ s t. text_cmp s t) (text_ends b p z) (text_goes b q hq)
    by (inr n) = both_go b p q Less (λ e. omega (arith, e, n)) hq (nat_less (get_or b p 0) (get_or b q 0) lt)

before_none : (s : List ℕ) → text_cmp s [] ≡ Less → ⊥
before_none [] h = true≢false (sym (ap is_lt h))
before_none (x ∷ xs) h = true≢false (sym (ap is_lt h))

first_not_below : (b : List ℕ) (p q : ℕ) → (get_or b p 0 < get_or b q 0 → ⊥) → (get_or b p 0 ≡ get_or b q 0 → get_or b p 0 ≡ 0) → text_cmp (text_at b p) (text_at b q) ≡ Less → ⊥
first_not_below b p q nlt end less = by (eq-zero-or-pos (get_or b q 0))
  where
    by : (get_or b q 0 ≡ 0) ⊎ (0 < get_or b q 0) → ⊥
    by (inl z) = before_none (text_at b p) (sym (ap (λ t. text_cmp (text_at b p) t) (text_ends b q z)) ∙ less)
    by (inr n) =
        let differ : get_or b p 0 ≡ get_or b q 0 → ⊥ = λ e. let z = end e in omega (arith, e, z, n) in
        let gt : get_or b q 0 < get_or b p 0 = omega (arith, nlt, differ) in
        true≢false (sym (ap is_lt (sym (both_go b p q Greater (λ e. omega (arith, e, gt)) (λ e. omega (arith, e, n)) (nat_greater (get_or b p 0) (get_or b q 0) gt)) ∙ less)))

at_first : (b : List ℕ) (p : ℕ) → get_or b (p + 0) 0 ≡ get_or b p 0
at_first b p = let e : p + 0 ≡ p = omega arith in ap (λ i. get_or b i 0) e

at_next : (b : List ℕ) (p j : ℕ) → get_or b (p + suc j) 0 ≡ get_or b (suc p + j) 0
at_next b p j = let e : p + suc j ≡ suc p + j = omega arith in ap (λ i. get_or b i 0) e

moved : (b : List ℕ) (p q n : ℕ) → ((j : ℕ) → j < suc n → (get_or b (p + j) 0 ≡ get_or b (q + j) 0) × (get_or b (p + j) 0 ≡ 0 → ⊥))
    → (j : ℕ) → j < n → (get_or b (suc p + j) 0 ≡ get_or b (suc q + j) 0) × (get_or b (suc p + j) 0 ≡ 0 → ⊥)
moved b p q n same j lt =
    let here = same (suc j) (omega arith) in
    (sym (at_next b p j) ∙ here.0 ∙ at_next b q j, λ z. here.1 (at_next b p j ∙ z))

goes_on : (b : List ℕ) (p q n : ℕ) → ((j : ℕ) → j < suc n → (get_or b (p + j) 0 ≡ get_or b (q + j) 0) × (get_or b (p + j) 0 ≡ 0 → ⊥))
    → text_cmp (text_at b p) (text_at b q) ≡ text_cmp (text_at b (suc p)) (text_at b (suc q))
goes_on b p q n same =
    let here = same 0 (omega arith) in
    same_head b p q (sym (at_first b p) ∙ here.0 ∙ at_first b q) (λ z. here.1 (at_first b p ∙ z))

-- n bytes agree and aren't 0, and after them the first text has the lesser byte, or the end
pub below : (b : List ℕ) (p q n : ℕ) → ((j : ℕ) → j < n → (get_or b (p + j) 0 ≡ get_or b (q + j) 0) × (get_or b (p + j) 0 ≡ 0 → ⊥))
    → get_or b (p + n) 0 < get_or b (q + n) 0 → text_cmp (text_at b p) (text_at b q) ≡ Less
below b p q zero same lt = first_below b p q (omega (arith, at_first b p, at_first b q, lt))
below b p q (suc n) same lt =
    goes_on b p q n same ∙ below b (suc p) (suc q) n (moved b p q n same) (omega (arith, at_next b p n, at_next b q n, lt))

-- after them it hasn't, or both texts end
pub not_below : (b : List ℕ) (p q n : ℕ) → ((j : ℕ) → j < n → (get_or b (p + j) 0 ≡ get_or b (q + j) 0) × (get_or b (p + j) 0 ≡ 0 → ⊥))
    → (get_or b (p + n) 0 < get_or b (q + n) 0 → ⊥) → (get_or b (p + n) 0 ≡ get_or b (q + n) 0 → get_or b (p + n) 0 ≡ 0)
    → text_cmp (text_at b p) (text_at b q) ≡ Less → ⊥
not_below b p q zero same nlt end less =
    first_not_below b p q (λ lt. nlt (omega (arith, at_first b p, at_first b q, lt))) (λ e. sym (at_first b p) ∙ end (at_first b p ∙ e ∙ sym (at_first b q))) less
not_below b p q (suc n) same nlt end less =
    not_below b (suc p) (suc q) n (moved b p q n same)
    (λ lt. nlt (omega (arith, at_next b p n, at_next b q n, lt)))
    (λ e. sym (at_next b p n) ∙ end (at_next b p n ∙ e ∙ sym (at_next b q n)))
    (sym (goes_on b p q n same) ∙ less)
