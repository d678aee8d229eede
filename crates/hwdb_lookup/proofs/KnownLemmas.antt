-- What was read of a file is what is in it.
use Rattle.std.proofs.Common.{◌≡◌, ◌≤◌, ◌<◌, ◌-◌, ◌/◌, ℕ, zero, suc, ◌+◌, ◌*◌, List, [], ◌∷◌, length, take, drop, slice_index, Bool, true, false, not, cond, ◌==◌, refl, sym, ◌∙◌, ap, arith}
use Rattle.std.proofs.lemmas.List.{get_or-drop, length-drop}
use Rattle.std.proofs.lemmas.List.Sums.{take_while-cons}
use Rattle.std.specs.List.{take_while}
use Rattle.byteorder.specs.Endian.{little_from}
use Rattle.hwdb_spec.specs.Format.{number_at, text_at}
use Rattle.hwdb_lookup.specs.Views.{IsOf}
use Rattle.hwdb_lookup.specs.Internal.Agreement.{AgreeIn}
use Rattle.hwdb_lookup.specs.declared.known.Known.{Known}

-- the buffer may be the file
pub itself : (known : Known) → IsOf known known.buffer.now
itself known = record { size = refl; same = λ i lt read. refl }

pub agree_back : (a b : List ℕ) (from to : ℕ) → AgreeIn a b from to → AgreeIn b a from to
agree_back a b from to same i above below = sym (same i above below)

pub agree_part : (a b : List ℕ) (from to first last : ℕ) → from ≤ first → last ≤ to → AgreeIn a b from to → AgreeIn a b first last
agree_part a b from to first last begin end same i above below = same i (omega (arith, begin, above)) (omega (arith, end, below))

pub blocks_within : (from to i : ℕ) → from ≤ i → i < to → (from / 4096 ≤ i / 4096) × (i / 4096 < (to - 1) / 4096 + 1)
blocks_within from to i above below = (omega (arith, above), omega (arith, below))

-- a block that has one of the bytes before `to`
pub block_below : (from to len block : ℕ) → from < to → to ≤ len → block < (to - 1) / 4096 + 1 → block * 4096 < len
block_below from to len block some end below = omega (arith, some, end, below)

same_from : (xs ys : List ℕ) (k n : ℕ) → ((j : ℕ) → k ≤ j → j < k + n → slice_index xs j ≡ slice_index ys j) → little_from k n xs ≡ little_from k n ys
same_from xs ys k zero same = refl
same_from xs ys k (suc n) same =
    let here = same k (omega arith) (omega arith) in
    let rest = same_from xs ys (suc k) n (λ j above below. same j (omega (arith, above)) (omega (arith, below))) in
    omega (arith, here, rest)

slice_index_drop : (xs : List ℕ) (i j : ℕ) → slice_index (drop i xs) j ≡ slice_index xs (i + j)
slice_index_drop xs i j = get_or-drop i xs j 0

pub number_same : (a b : List ℕ) (n i : ℕ) → AgreeIn a b i (i + n) → number_at n i a ≡ number_at n i b
unfolding number_at
number_same a b n i same =
    same_from (drop i a) (drop i b) 0 n
    (λ j above below. slice_index_drop a i j ∙ same (i + j) (omega arith) (omega (arith, below)) ∙ sym (slice_index_drop b i j))

front_step : (p : ℕ → Bool) (x : ℕ) (xs : List ℕ) (y : ℕ) (ys : List ℕ) → x ≡ y → (p x ≡ true → take_while p xs ≡ take_while p ys) → (t : Bool) → p x ≡ t → take_while p (x ∷ xs) ≡ take_while p (y ∷ ys)
front_step p x xs y ys first rest true is =
    let here : take_while p (x ∷ xs) ≡ x ∷ take_while p xs = take_while-cons p x xs ∙ ap (λ t. cond t (x ∷ take_while p xs) []) is in
    let there : take_while p (y ∷ ys) ≡ y ∷ take_while p ys = take_while-cons p y ys ∙ ap (λ t. cond t (y ∷ take_while p ys) []) (sym (ap p first) ∙ is) in
    here ∙ ap (λ (more : List ℕ). x ∷ more) (rest is) ∙ ap (λ z. z ∷ take_while p ys) first ∙ sym there
front_step p x xs y ys first rest false is =
    let here : take_while p (x ∷ xs) ≡ [] = take_while-cons p x xs ∙ ap (λ t. cond t (x ∷ take_while p xs) []) is in
    let there : take_while p (y ∷ ys) ≡ [] = take_while-cons p y ys ∙ ap (λ t. cond t (y ∷ take_while p ys) []) (sym (ap p first) ∙ is) in
    here ∙ sym there

-- what a test passes at the front is the same if the two agree so far, and at the first that fails
front_same : (p : ℕ → Bool) (xs ys : List ℕ) → length xs ≡ length ys → ((j : ℕ) → j ≤ length (take_while p xs) → j < length xs → slice_index xs j ≡ slice_index ys j) → take_while p xs ≡ take_while p ys
front_same p [] [] size same = refl
front_same p [] (y ∷ ys) size same = absurd (omega (arith, size))
front_same p (x ∷ xs) [] size same = absurd (omega (arith, size))
front_same p (x ∷ xs) (y ∷ ys) size same =
    front_step p x xs y ys (same 0 (omega arith) (omega arith))
    (λ yes.
    let long : length (take_while p (x ∷ xs)) ≡ suc (length (take_while p xs)) = ap length (take_while-cons p x xs ∙ ap (λ t. cond t (x ∷ take_while p xs) []) yes) in
    front_same p xs ys (omega (arith, size)) (λ j within below. same (suc j) (omega (arith, within, long)) (omega (arith, below))))
    (p x) refl

-- a string is the same if the two agree as far as the byte 0 after it
pub text_same : (a b : List ℕ) (i to : ℕ) → length a ≡ length b → ((j : ℕ) → j ≤ length (text_at a i) → i + j < length a → i + j < to) → AgreeIn a b i to → text_at a i ≡ text_at b i
unfolding text_at
text_same a b i to size reach same =
    front_same (λ x. not (x == 0)) (drop i a) (drop i b) (length-drop i a ∙ ap (λ n. n - i) size ∙ sym (length-drop i b))
    (λ j within below.
    let rest = length-drop i a in
    slice_index_drop a i j ∙ same (i + j) (omega arith) (reach j within (omega (arith, below, rest))) ∙ sym (slice_index_drop b i j))

part_step : (p : ℕ → Bool) (n x : ℕ) (xs : List ℕ) (y : ℕ) (ys : List ℕ) → x ≡ y → take n (take_while p xs) ≡ take n (take_while p ys) → (t : Bool) → p x ≡ t
    → take (suc n) (take_while p (x ∷ xs)) ≡ take (suc n) (take_while p (y ∷ ys))
part_step p n x xs y ys first rest true is =
    let here : take_while p (x ∷ xs) ≡ x ∷ take_while p xs = take_while-cons p x xs ∙ ap (λ t. cond t (x ∷ take_while p xs) []) is in
    let there : take_while p (y ∷ ys) ≡ y ∷ take_while p ys = take_while-cons p y ys ∙ ap (λ t. cond t (y ∷ take_while p ys) []) (sym (ap p first) ∙ is) in
    ap (take (suc n)) here ∙ ap (λ (more : List ℕ). x ∷ more) rest ∙ ap (λ z. z ∷ take n (take_while p ys)) first ∙ sym (ap (take (suc n)) there)
part_step p n x xs y ys first rest false is =
    let here : take_while p (x ∷ xs) ≡ [] = take_while-cons p x xs ∙ ap (λ t. cond t (x ∷ take_while p xs) []) is in
    let there : take_while p (y ∷ ys) ≡ [] = take_while-cons p y ys ∙ ap (λ t. cond t (y ∷ take_while p ys) []) (sym (ap p first) ∙ is) in
    ap (take (suc n)) (here ∙ sym there)

part_same : (p : ℕ → Bool) (n : ℕ) (xs ys : List ℕ) → length xs ≡ length ys → ((j : ℕ) → j < n → j < length xs → slice_index xs j ≡ slice_index ys j) → take n (take_while p xs) ≡ take n (take_while p ys)
part_same p zero xs ys size same = refl
part_same p (suc n) [] [] size same = refl
part_same p (suc n) [] (y ∷ ys) size same = absurd (omega (arith, size))
part_same p (suc n) (x ∷ xs) [] size same = absurd (omega (arith, size))
part_same p (suc n) (x ∷ xs) (y ∷ ys) size same =
    part_step p n x xs y ys (same 0 (omega arith) (omega arith))
    (part_same p n xs ys (omega (arith, size)) (λ j lt below. same (suc j) (omega (arith, lt)) (omega (arith, below)))) (p x) refl

-- the front of a string is the same if the two agree in so many bytes
pub text_front_same : (a b : List ℕ) (i most to : ℕ) → length a ≡ length b → ((j : ℕ) → j < most → i + j < length a → i + j < to) → AgreeIn a b i to → take most (text_at a i) ≡ take most (text_at b i)
unfolding text_at
text_front_same a b i most to size reach same =
    part_same (λ x. not (x == 0)) most (drop i a) (drop i b) (length-drop i a ∙ ap (λ n. n - i) size ∙ sym (length-drop i b))
    (λ j lt below.
    let rest = length-drop i a in
    slice_index_drop a i j ∙ same (i + j) (omega arith) (reach j lt (omega (arith, below, rest))) ∙ sym (slice_index_drop b i j))
