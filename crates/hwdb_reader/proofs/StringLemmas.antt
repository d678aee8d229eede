-- A string ends before the first byte 0.
use Rattle.std.proofs.Common.{◌≡◌, ◌≤◌, ◌<◌, ◌-◌, ℕ, zero, suc, List, [], ◌∷◌, length, take, drop, get_or, Bool, true, false, not, cond, refl, sym, ◌∙◌, ap, arith, length-drop, ◌==◌, ◌+◌, min}
use Rattle.std.specs.List.{take_while}
use Rattle.std.proofs.lemmas.List.{drop-drop, get_or-drop}
use Rattle.std.proofs.lemmas.Grind.{common_steps}
use Rattle.std.proofs.lemmas.List.Sums.{take_while-cons}
use Rattle.hwdb_spec.specs.Format.{text_at}

-- a front of bytes that pass, and then the end or a byte that doesn't
pub front_is : (p : ℕ → Bool) (xs : List ℕ) (n : ℕ) → n ≤ length xs → ((k : ℕ) → k < n → p (get_or xs k 0) ≡ true) → (n < length xs → p (get_or xs n 0) ≡ false) → take n xs ≡ take_while p xs
front_is p [] zero h below at = refl
front_is p [] (suc n) h below at = absurd (omega arith)
front_is p (x ∷ xs) zero h below at = sym (take_while-cons p x xs ∙ ap (λ b. cond b (x ∷ take_while p xs) []) (at (omega arith)))
front_is p (x ∷ xs) (suc n) h below at =
    let rest = front_is p xs n (omega arith) (λ k lt. below (suc k) (omega arith)) (λ lt. at (omega arith)) in
    ap (λ ys. x ∷ ys) rest ∙ sym (take_while-cons p x xs ∙ ap (λ b. cond b (x ∷ take_while p xs) []) (below 0 (omega arith)))

take_all : (xs : List ℕ) (n : ℕ) → n ≡ length xs → take n xs ≡ xs
take_all xs n h = grind (arith, common_steps)

not_zero : (x : ℕ) → ((x == 0) ≡ true → ⊥) → not (x == 0) ≡ true
not_zero x h = grind (arith, common_steps)

is_zero : (x : ℕ) → (x == 0) ≡ true → not (x == 0) ≡ false
is_zero x h = ap not h

pub text_found : (b : List ℕ) (i n : ℕ) → i ≤ length b → n < length (take (length b - i) (drop i b)) → ((k : ℕ) → 0 ≤ k → k < n → (get_or (take (length b - i) (drop i b)) k 0 == 0) ≡ true → ⊥) → (get_or (take (length b - i) (drop i b)) n 0 == 0) ≡ true → take n (take (length b - i) (drop i b)) ≡ text_at b i
unfolding text_at
text_found b i n h lt none here =
    let e : take (length b - i) (drop i b) ≡ drop i b = take_all (drop i b) (length b - i) (omega (arith, length-drop i b)) in
    front_is (λ x. not (x == 0)) (take (length b - i) (drop i b)) n (omega arith) (λ k kn. not_zero _ (none k (omega arith) kn)) (λ _. is_zero _ here)
    ∙ ap (take_while (λ x. not (x == 0))) e

pub text_open : (b : List ℕ) (i : ℕ) → i ≤ length b → ((k : ℕ) → 0 ≤ k → k < length (take (length b - i) (drop i b)) → (get_or (take (length b - i) (drop i b)) k 0 == 0) ≡ true → ⊥) → take (length b - i) (drop i b) ≡ text_at b i
unfolding text_at
text_open b i h none =
    let xs = take (length b - i) (drop i b) in
    let e : take (length b - i) (drop i b) ≡ drop i b = take_all (drop i b) (length b - i) (omega (arith, length-drop i b)) in
    sym (take_all xs (length xs) refl)
    ∙ front_is (λ x. not (x == 0)) xs (length xs) (omega arith) (λ k kn. not_zero _ (none k (omega arith) kn)) (λ k. absurd (omega arith))
    ∙ ap (take_while (λ x. not (x == 0))) e

-- the string in a part is the part of the string
while_case : (p : ℕ → Bool) (x : ℕ) (xs : List ℕ) (n : ℕ) (b : Bool) → take_while p (take n xs) ≡ take n (take_while p xs)
    → cond b (x ∷ take_while p (take n xs)) [] ≡ take (suc n) (cond b (x ∷ take_while p xs) [])
while_case p x xs n true ih = ap (λ l. x ∷ l) ih
while_case p x xs n false ih = refl

while_part : (p : ℕ → Bool) (xs : List ℕ) (n : ℕ) → take_while p (take n xs) ≡ take n (take_while p xs)
while_part p xs zero = refl
while_part p [] (suc n) = refl
while_part p (x ∷ xs) (suc n) =
    take_while-cons p x (take n xs) ∙ while_case p x xs n (p x) (while_part p xs n) ∙ sym (ap (take (suc n)) (take_while-cons p x xs))

take_least : (xs : List ℕ) (most : ℕ) → take (min most (length xs)) xs ≡ take most xs
take_least xs most = grind (arith, common_steps)

-- the part of a string that a text begins with
in_front : (b rest : List ℕ) (i n most : ℕ) → rest ≡ drop i b → n ≡ min most (length rest) → take_while (λ x. not (x == 0)) (take n rest) ≡ take most (text_at b i)
unfolding text_at
in_front b rest i n most r e =
    ap (λ k. take_while (λ x. not (x == 0)) (take k rest)) e ∙ ap (take_while (λ x. not (x == 0))) (take_least rest most ∙ ap (take most) r)
    ∙ while_part (λ x. not (x == 0)) (drop i b) most

pub front_found : (b rest : List ℕ) (i n most k : ℕ) → rest ≡ drop i b → n ≡ min most (length rest) → k < length (take n rest)
    → ((j : ℕ) → 0 ≤ j → j < k → (get_or (take n rest) j 0 == 0) ≡ true → ⊥) → (get_or (take n rest) k 0 == 0) ≡ true → take k (take n rest) ≡ take most (text_at b i)
front_found b rest i n most k r e lt none here =
    front_is (λ x. not (x == 0)) (take n rest) k (omega arith) (λ j jk. not_zero _ (none j (omega arith) jk)) (λ _. is_zero _ here) ∙ in_front b rest i n most r e

pub front_open : (b rest : List ℕ) (i n most : ℕ) → rest ≡ drop i b → n ≡ min most (length rest)
    → ((j : ℕ) → 0 ≤ j → j < length (take n rest) → (get_or (take n rest) j 0 == 0) ≡ true → ⊥) → take n rest ≡ take most (text_at b i)
front_open b rest i n most r e none =
    sym (take_all (take n rest) (length (take n rest)) refl)
    ∙ front_is (λ x. not (x == 0)) (take n rest) (length (take n rest)) (omega arith) (λ j jk. not_zero _ (none j (omega arith) jk)) (λ k. absurd (omega arith)) ∙ in_front b rest i n most r e

nz : ℕ → Bool
nz x = not (x == 0)

further_case : (x : ℕ) (xs : List ℕ) (k : ℕ) (c : Bool) → nz x ≡ c → (k ≤ length (take_while nz xs) → drop k (take_while nz xs) ≡ take_while nz (drop k xs))
    → suc k ≤ length (take_while nz (x ∷ xs)) → drop (suc k) (take_while nz (x ∷ xs)) ≡ take_while nz (drop k xs)
further_case x xs k true e ih l =
    let w : take_while nz (x ∷ xs) ≡ x ∷ take_while nz xs = take_while-cons nz x xs ∙ ap (λ b. cond b (x ∷ take_while nz xs) []) e in
    ap (drop (suc k)) w ∙ ih (omega (arith, l, ap length w))
further_case x xs k false e ih l =
    let w : take_while nz (x ∷ xs) ≡ [] = take_while-cons nz x xs ∙ ap (λ b. cond b (x ∷ take_while nz xs) []) e in
    absurd (omega (arith, l, ap length w))

further : (xs : List ℕ) (k : ℕ) → k ≤ length (take_while nz xs) → drop k (take_while nz xs) ≡ take_while nz (drop k xs)
further xs zero l = refl
further [] (suc k) l = refl
further (x ∷ xs) (suc k) l = further_case x xs k (nz x) refl (further xs k) l

pub text_further : (b : List ℕ) (i at : ℕ) → at ≤ length (text_at b i) → drop at (text_at b i) ≡ text_at b (i + at)
unfolding text_at nz
text_further b i at h = further (drop i b) at h ∙ ap (take_while nz) (drop-drop at i b)

-- a place in the string is a place of the bytes
pub text_within : (b : List ℕ) (i : ℕ) → i ≤ length b → i + length (text_at b i) ≤ length b
unfolding text_at
text_within b i h = let l = go (drop i b) in omega (arith, l, length-drop i b)
  where
    go : (xs : List ℕ) → length (take_while (λ x. not (x == 0)) xs) ≤ length xs
    go xs = grind (arith, common_steps)

front_short : (n : ℕ) (xs : List ℕ) → length (take n xs) ≤ length xs
front_short n xs = grind (arith, common_steps)

-- and so is each part of it
pub front_within : (b : List ℕ) (i most : ℕ) → i ≤ length b → i + length (take most (text_at b i)) ≤ length b
front_within b i most h = let s = front_short most (text_at b i) in let w = text_within b i h in omega (arith, s, w)

-- stars before a byte 0 are a whole string
pub stars_are_text : (b : List ℕ) (from end : ℕ) → from < end → end < length b → ((k : ℕ) → from ≤ k → k < end → get_or b k 0 ≡ 42) → get_or b end 0 ≡ 0
    → take (end - from) (drop from b) ≡ text_at b from
unfolding text_at
stars_are_text b from end some within stars zero_after =
    front_is (λ x. not (x == 0)) (drop from b) (end - from) (omega (arith, length-drop from b))
    (λ k lt. ap (λ x. not (x == 0)) (get_or-drop from b k 0 ∙ stars (from + k) (omega arith) (omega arith)))
    (λ lt. ap (λ x. not (x == 0)) (get_or-drop from b (end - from) 0 ∙ ap (λ i. get_or b i 0) (omega arith) ∙ zero_after))
