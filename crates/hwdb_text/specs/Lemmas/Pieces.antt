-- A text, cut at a byte, piece by piece.
use Rattle.std.proofs.Common.{◌≡◌, ◌<◌, ◌≤◌, ◌+◌, ℕ, zero, suc, Bool, true, false, List, [], ◌∷◌, take, drop, length, not, refl, sym, ap, ◌∙◌, subst, arith, length-drop, ◌-◌, if◌then◌else◌}
use Rattle.std.proofs.lemmas.List.{take_all}
use Rattle.std.specs.List.{position_or_len, onto_first}
use Rattle.hwdb_spec.specs.Lines.{is, pieces}

module _ (cut : ℕ) where
  -- the first piece, and what comes after it
  abbrev IsFirst : List ℕ → ℕ → Type 0
  IsFirst xs n = pieces (is cut) xs ≡ take n xs ∷ pieces (is cut) (drop (n + 1) xs)

  first_by : (b : Bool) (x : ℕ) (rest : List ℕ) (n : ℕ) → ((m : ℕ) → 0 < length rest → m ≡ position_or_len (is cut) rest → IsFirst rest m)
      → is cut x ≡ b → n ≡ (if not b then 1 + position_or_len (is cut) rest else 0) → IsFirst (x ∷ rest) n
  unfolding pieces
  first_by true x rest n more e at = subst (IsFirst (x ∷ rest)) (sym at) (rw e refl)
  first_by false x rest zero more e at = absurd (omega (arith, at))
  first_by false x [] (suc m) more e at = let P : ℕ → Type 0 = λ k. IsFirst (x ∷ []) (suc k) in subst P (sym (small m at)) (rw e refl)
    where
      small : (m : ℕ) → suc m ≡ 1 + 0 → m ≡ 0
      small m at = omega (arith, at)
  first_by false x (y ∷ ys) (suc m) more e at =
      rw e (ap (onto_first x) (more m (omega arith) (omega (arith, at))) ∙ ap (λ (j : ℕ). (x ∷ take m (y ∷ ys)) ∷ pieces (is cut) (drop j (x ∷ (y ∷ ys)))) (next m))
    where
      next : (m : ℕ) → suc (m + 1) ≡ suc m + 1
      next m = omega arith

  pub first_is : (xs : List ℕ) (n : ℕ) → 0 < length xs → n ≡ position_or_len (is cut) xs → IsFirst xs n
  first_is [] n some at = absurd (omega (arith, some))
  first_is (x ∷ xs) n some at = first_by (is cut x) x xs n (λ m some at. first_is xs m some at) refl at

  -- the last piece, if it isn't cut off
  pub last_is : (xs : List ℕ) (n : ℕ) → 0 < length xs → n ≡ position_or_len (is cut) xs → length xs ≤ n → pieces (is cut) xs ≡ xs ∷ pieces (is cut) []
  last_is xs n some is_at le =
      first_is xs n some is_at ∙ ap (λ (l : List ℕ). l ∷ pieces (is cut) (drop (n + 1) xs)) (take_all n xs le) ∙ ap (λ (l : List ℕ). xs ∷ pieces (is cut) l) (drop_none (n + 1) xs (omega (arith, le)))
    where
      drop_none : (k : ℕ) (xs : List ℕ) → length xs ≤ k → drop k xs ≡ []
      drop_none zero [] le = refl
      drop_none (suc k) [] le = refl
      drop_none zero (x ∷ xs) le = absurd (omega (arith, le))
      drop_none (suc k) (x ∷ xs) le = drop_none k xs (omega (arith, le))

-- what is left, as a piece of its length
pub rest_is : (xs : List ℕ) (k : ℕ) → drop k xs ≡ take (length xs - k) (drop k xs)
rest_is xs k = sym (take_all (length xs - k) (drop k xs) (omega (arith, length-drop k xs)))

-- no more pieces than bytes
pub few_pieces : (cut : ℕ) (xs : List ℕ) → length (pieces (is cut) xs) ≤ length xs
unfolding pieces
few_pieces cut [] = omega arith
few_pieces cut (x ∷ xs) = by (is cut x) (pieces (is cut) xs) refl (few_pieces cut xs)
  where
    by : (b : Bool) (ps : List (List ℕ)) → ps ≡ pieces (is cut) xs → length ps ≤ length xs → length (if b then [] ∷ ps else onto_first x ps) ≤ suc (length xs)
    by true ps e few = omega (arith, few)
    by false [] e few = omega (arith, few)
    by false (p ∷ ps) e few = omega (arith, few)
