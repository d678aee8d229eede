-- A string that is read in pieces.
use Rattle.std.proofs.Common.{◌≡◌, ◌≤◌, ℕ, zero, suc, List, [], ◌∷◌, ◌++◌, length, take, drop, Bool, true, false, not, cond, refl, sym, ◌∙◌, ap, arith, length-drop, ◌==◌, ◌+◌}
use Rattle.std.specs.List.{take_while}
use Rattle.std.proofs.lemmas.List.{drop-drop}
use Rattle.std.proofs.lemmas.Grind.{common_steps}
use Rattle.std.proofs.lemmas.List.Sums.{take_while-cons}
use Rattle.hwdb_spec.specs.Format.{text_at}

nz : ℕ → Bool
nz x = not (x == 0)

further_case : (x : ℕ) (xs : List ℕ) (k : ℕ) (c : Bool) → nz x ≡ c → (k ≤ length (take_while nz xs) → drop k (take_while nz xs) ≡ take_while nz (drop k xs))
    → suc k ≤ length (take_while nz (x ∷ xs)) → drop (suc k) (take_while nz (x ∷ xs)) ≡ take_while nz (drop k xs)
further_case x xs k true e ih l =
    let w : take_while nz (x ∷ xs) ≡ x ∷ take_while nz xs = take_while-cons nz x xs ∙ ap (λ b. cond b (x ∷ take_while nz xs) []) e in
    ap (drop (suc k)) w ∙ ih (omega (arith, l, ap length w))
further_case x xs k false e ih l =
    let w : take_while nz (x ∷ xs) ≡ [] = take_while-cons nz x xs ∙ ap (λ b. cond b (x ∷ take_while nz xs) []) e in
    absurd (omega (arith, l, ap length w))

further : (xs : List ℕ) (k : ℕ) → k ≤ length (take_while nz xs) → drop k (take_while nz xs) ≡ take_while nz (drop k xs)
further xs zero l = refl
further [] (suc k) l = refl
further (x ∷ xs) (suc k) l = further_case x xs k (nz x) refl (further xs k) l

text_further : (b : List ℕ) (i at : ℕ) → at ≤ length (text_at b i) → drop at (text_at b i) ≡ text_at b (i + at)
unfolding text_at nz
text_further b i at h = further (drop i b) at h ∙ ap (take_while nz) (drop-drop at i b)

text_within : (b : List ℕ) (i : ℕ) → i ≤ length b → i + length (text_at b i) ≤ length b
unfolding text_at
text_within b i h = let l = go (drop i b) in omega (arith, l, length-drop i b)
  where
    go : (xs : List ℕ) → length (take_while (λ x. not (x == 0)) xs) ≤ length xs
    go xs = grind (arith, common_steps)

front_short : (n : ℕ) (xs : List ℕ) → length (take n xs) ≤ length xs
front_short n xs = grind (arith, common_steps)

-- a part of a string is inside of the bytes
pub front_within : (b : List ℕ) (i most : ℕ) → i ≤ length b → i + length (take most (text_at b i)) ≤ length b
front_within b i most h = let s = front_short most (text_at b i) in let w = text_within b i h in omega (arith, s, w)

front_and_rest : (n : ℕ) (xs : List ℕ) → take n xs ++ drop (length (take n xs)) xs ≡ xs
front_and_rest zero xs = refl
front_and_rest (suc n) [] = refl
front_and_rest (suc n) (x ∷ xs) = ap (λ l. x ∷ l) (front_and_rest n xs)

-- the string is its front and then the string after that
pub piece_and_rest : (b piece : List ℕ) (i most : ℕ) → piece ≡ take most (text_at b i) → piece ++ text_at b (i + length piece) ≡ text_at b i
piece_and_rest b piece i most p =
    ap (λ l. l ++ text_at b (i + length l)) p
    ∙ ap (λ l. take most (text_at b i) ++ l) (sym (text_further b i (length (take most (text_at b i))) (front_short most (text_at b i))))
    ∙ front_and_rest most (text_at b i)

-- a front without bytes is all of the string
pub piece_ends : (xs piece : List ℕ) (most : ℕ) → piece ≡ take most xs → 1 ≤ most → length piece ≡ 0 → xs ≡ []
piece_ends xs piece zero p h e = absurd (omega (arith, h))
piece_ends [] piece (suc n) p h e = refl
piece_ends (x ∷ xs) piece (suc n) p h e = absurd (omega (arith, e, ap length p))
