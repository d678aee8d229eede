-- Strings of two databases whose bytes are the same.
use Rattle.std.proofs.Common.{◌≡◌, ◌≤◌, ◌<◌, ◌+◌, ◌-◌, ℕ, zero, suc, List, [], ◌∷◌, length, take, drop, get_or, Bool, true, false, not, cond, None, Some, is_some, refl, sym, ◌∙◌, ap, arith, length-drop, ◌⊎◌, inl, inr, ◌==◌}
use Rattle.std.specs.List.{take_while}
use Rattle.std.proofs.lemmas.List.{get_or-drop, get_or-take}
use Rattle.std.proofs.lemmas.Bool.{cases_lt}
use Rattle.std.proofs.lemmas.Grind.{common_steps}
use Rattle.std.proofs.lemmas.List.Sums.{take_while-cons}
use Rattle.std.specs.Prelude.{if◌then◌else◌}
use Rattle.hwdb_spec.specs.Format.{text_at}
use Rattle.hwdb_spec.specs.Folders.{same}
use Rattle.hwdb_spec.specs.Lemmas.Orders.{same_itself}
use Rattle.hwdb_spec.specs.Tree.{key_of}
use Rattle.hwdb_reader.specs.Internal.Shared.{Agree, AreShared}

abbrev nz : ℕ → Bool
nz x = not (x == 0)

-- a string that begins with a byte 0 is empty
empty : (x : ℕ) (xs : List ℕ) → x ≡ 0 → take_while nz (x ∷ xs) ≡ []
empty x xs h =
    let is : nz x ≡ false = ap nz h in
    take_while-cons nz x xs ∙ ap (λ b. cond b (x ∷ take_while nz xs) []) is

one_more : (x y : ℕ) (xs ys : List ℕ) → x ≡ y → take_while nz xs ≡ take_while nz ys → take_while nz (x ∷ xs) ≡ take_while nz (y ∷ ys)
one_more x y xs ys one rest =
    take_while-cons nz x xs ∙ ap (λ (g : ℕ × List ℕ). cond (nz g.0) (g.0 ∷ g.1) []) (λ i. (one i, rest i)) ∙ sym (take_while-cons nz y ys)

-- bytes that are the same up to a place at which both have a 0, or end
strings_agree : (xs ys : List ℕ) (n : ℕ) → ((k : ℕ) → k < n → get_or xs k 0 ≡ get_or ys k 0) → get_or xs n 0 ≡ 0 → get_or ys n 0 ≡ 0
    → take_while nz xs ≡ take_while nz ys
strings_agree [] [] n same x0 y0 = refl
strings_agree [] (y ∷ ys) zero same x0 y0 = sym (empty y ys y0)
strings_agree [] (y ∷ ys) (suc n) same x0 y0 = sym (empty y ys (sym (same 0 (omega arith))))
strings_agree (x ∷ xs) [] zero same x0 y0 = empty x xs x0
strings_agree (x ∷ xs) [] (suc n) same x0 y0 = empty x xs (same 0 (omega arith))
strings_agree (x ∷ xs) (y ∷ ys) zero same x0 y0 = empty x xs x0 ∙ sym (empty y ys y0)
strings_agree (x ∷ xs) (y ∷ ys) (suc n) same x0 y0 =
    one_more x y xs ys (same 0 (omega arith)) (strings_agree xs ys n (λ k lt. same (suc k) (omega arith)) x0 y0)

-- and the strings at these places
strings_there : (a b : List ℕ) (x y n k : ℕ) → Agree a b x y n → get_or a (x + n) 0 ≡ 0 → get_or b (y + n) 0 ≡ 0 → k ≤ n
    → text_at a (x + k) ≡ text_at b (y + k)
unfolding text_at
strings_there a b x y n k agree a0 b0 le =
    let at : (c : List ℕ) (z j : ℕ) → get_or (drop (z + k) c) j 0 ≡ get_or c (z + (k + j)) 0 =
    λ c z j. get_or-drop (z + k) c j 0 ∙ ap (λ i. get_or c i 0) (omega arith) in
    let end : (z : ℕ) → z + (k + (n - k)) ≡ z + n = λ z. omega arith in
    strings_agree (drop (x + k) a) (drop (y + k) b) (n - k) (λ j lt. at a x j ∙ agree (k + j) (omega arith) ∙ sym (at b y j))
    (at a x (n - k) ∙ ap (λ i. get_or a i 0) (end x) ∙ a0) (at b y (n - k) ∙ ap (λ i. get_or b i 0) (end y) ∙ b0)

take_all : (xs : List ℕ) (n : ℕ) → n ≡ length xs → take n xs ≡ xs
take_all xs n h = grind (arith, common_steps)

-- a byte of the rest of a text
rest_byte : (a : List ℕ) (x k : ℕ) → x ≤ length a → get_or (take (length a - x) (drop x a)) k 0 ≡ get_or a (x + k) 0
rest_byte a x k le =
    ap (λ xs. get_or xs k 0) (take_all (drop x a) (length a - x) (omega (arith, length-drop x a))) ∙ get_or-drop x a k 0

-- the rests of two texts begin with the same bytes, of which the last is a 0
pub front_shared : (a b : List ℕ) (x y m n : ℕ) → x ≤ length a → y ≤ length b → Agree (take (length a - x) (drop x a)) (take (length b - y) (drop y b)) 0 0 m → n ≤ m
    → (0 < n → get_or (take (length a - x) (drop x a)) (n - 1) 0 ≡ 0) → AreShared a b x y n
front_shared a b x y m n in_a in_b agree le ended k lt =
    let there : (j : ℕ) → j < m → get_or a (x + j) 0 ≡ get_or b (y + j) 0 =
    λ j jm. sym (rest_byte a x j in_a) ∙ ap (λ i. get_or (take (length a - x) (drop x a)) i 0) (omega arith) ∙ agree j jm
    ∙ ap (λ i. get_or (take (length b - y) (drop y b)) i 0) (omega arith) ∙ rest_byte b y j in_b in
    let zero_there : get_or a (x + (n - 1)) 0 ≡ 0 = sym (rest_byte a x (n - 1) in_a) ∙ ended (omega arith) in
    strings_there a b x y (n - 1) k (λ j jn. there j (omega arith)) zero_there (sym (there (n - 1) (omega arith)) ∙ zero_there) (omega arith)

-- ---- more bytes

byte_of : (b : List ℕ) (x k j : ℕ) → j < k → get_or (take k (drop x b)) j 0 ≡ get_or b (x + j) 0
byte_of b x k j lt = get_or-take k (drop x b) j 0 lt ∙ get_or-drop x b j 0

-- the same bytes at two places
pub piece : (a b : List ℕ) (x y m : ℕ) → take m (drop x a) ≡ take m (drop y b) → Agree a b x y m
piece a b x y m same k lt = sym (byte_of a x m k lt) ∙ ap (λ xs. get_or xs k 0) same ∙ byte_of b y m k lt

-- a step further
pub step_on : (a b : List ℕ) (n m : ℕ) → Agree a b 0 0 n → take m (drop n a) ≡ take m (drop n b) → Agree a b 0 0 (n + m)
step_on a b n m agree more k lt = go (cases_lt k n)
  where
    go : (k < n) ⊎ (n ≤ k) → get_or a (0 + k) 0 ≡ get_or b (0 + k) 0
    go (inl e) = agree k e
    go (inr e) =
        let at : n + (k - n) ≡ 0 + k = omega (arith, e) in
        ap (λ i. get_or a i 0) (sym at) ∙ piece a b n n m more (k - n) (omega (arith, e, lt)) ∙ ap (λ i. get_or b i 0) at

-- ---- the first byte of a string

not_space : (x : ℕ) → nz x ≡ false → (x == 32) ≡ false
not_space x h = grind (arith, common_steps)

picked : (t : List ℕ) (b : Bool) → b ≡ is_some (if b then Some t else None)
picked t true = refl
picked t false = refl

space_case : (x : ℕ) (t : List ℕ) (c : Bool) → nz x ≡ c → (x == 32) ≡ is_some (key_of (cond c (x ∷ t) []))
space_case x t true e = picked t (x == 32)
space_case x t false e = not_space x e

space : (xs : List ℕ) → (get_or xs 0 0 == 32) ≡ is_some (key_of (take_while nz xs))
space [] = refl
space (x ∷ xs) = space_case x (take_while nz xs) (nz x) refl ∙ ap (λ t. is_some (key_of t)) (sym (take_while-cons nz x xs))

pub first_space : (b : List ℕ) (i : ℕ) → (get_or b i 0 == 32) ≡ is_some (key_of (text_at b i))
unfolding text_at
first_space b i = ap (λ (x : ℕ). x == 32) (sym (get_or-drop i b 0 0 ∙ ap (λ k. get_or b k 0) (omega arith))) ∙ space (drop i b)

-- ---- parts

-- two parts of one length are the same
pub cut_to : (a b : List ℕ) (x y n : ℕ) → take (x + n - x) (drop x a) ≡ take (y + n - y) (drop y b) → take n (drop x a) ≡ take n (drop y b)
cut_to a b x y n same =
    let size : (z : ℕ) → z + n - z ≡ n = λ z. omega arith in
    ap (λ k. take k (drop x a)) (sym (size x)) ∙ same ∙ ap (λ k. take k (drop y b)) (size y)

-- and so are the texts
pub same_known : (a b old new : List ℕ) (i j : ℕ) → a ≡ old → b ≡ new → text_at old i ≡ text_at new j → true ≡ same (text_at a i) (text_at b j)
same_known a b old new i j ao bn is =
    let one : text_at a i ≡ text_at b j = ap (λ c. text_at c i) ao ∙ is ∙ ap (λ c. text_at c j) (sym bn) in
    sym (same_itself (text_at b j)) ∙ ap (λ t. same t (text_at b j)) (sym one)
