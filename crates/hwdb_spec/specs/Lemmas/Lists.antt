-- Lists that grow, and pieces that are appended.
use Rattle.std.proofs.Common.{◌≡◌, ◌∙◌, ◌<◌, ap, sym, ℕ, zero, suc, List, [], ◌∷◌, ◌++◌, take, map, length, get_or, flat_map, append_assoc, append-nil, arith}

-- one more of a list
pub taken_more : {A : Type 0} (xs : List A) (i : ℕ) (x : A) → i < length xs → x ≡ get_or xs i x → take (suc i) xs ≡ take i xs ++ x ∷ []
taken_more [] i x lt e = absurd (omega arith)
taken_more (y ∷ xs) zero x lt e = ap (λ z. z ∷ []) (sym e)
taken_more (y ∷ xs) (suc i) x lt e = ap (λ l. y ∷ l) (taken_more xs i x (omega arith) e)

-- one more of a list, mapped
pub mapped_more : {A B : Type 0} (f : A → B) (xs : List A) (i : ℕ) (x : A) → i < length xs → x ≡ get_or xs i x → map f (take (suc i) xs) ≡ map f (take i xs) ++ f x ∷ []
mapped_more f [] i x lt e = absurd (omega arith)
mapped_more f (y ∷ xs) zero x lt e = ap (λ z. f z ∷ []) (sym e)
mapped_more f (y ∷ xs) (suc i) x lt e = ap (λ l. f y ∷ l) (mapped_more f xs i x (omega arith) e)

-- what one more gives
pub gathered_more : {A B : Type 0} (f : A → List B) (xs : List A) (x : A) → flat_map f (xs ++ x ∷ []) ≡ flat_map f xs ++ f x
gathered_more f [] x = append-nil (f x)
gathered_more f (y ∷ xs) x = ap (λ l. f y ++ l) (gathered_more f xs x) ∙ sym (append_assoc (f y) (flat_map f xs) (f x))

-- three texts appended
pub three_pieces : (a b c d lit w end : List ℕ) → b ≡ a ++ lit → c ≡ b ++ w → d ≡ c ++ end → d ≡ a ++ (lit ++ (w ++ end))
three_pieces a b c d lit w end e f g =
    g ∙ ap (λ (l : List ℕ). l ++ end) (f ∙ ap (λ (l : List ℕ). l ++ w) e) ∙ append_assoc (a ++ lit) w end ∙ append_assoc a lit (w ++ end)

-- ---- texts with one beginning

pub same_rest : (path xs ys : List ℕ) → path ++ xs ≡ path ++ ys → xs ≡ ys
same_rest [] xs ys e = e
same_rest (c ∷ path) xs ys e = same_rest path xs ys (cc)

pub same_byte : (path xs ys : List ℕ) (c d : ℕ) → path ++ c ∷ xs ≡ path ++ d ∷ ys → c ≡ d
same_byte path xs ys c d e = let f : c ∷ xs ≡ d ∷ ys = same_rest path (c ∷ xs) (d ∷ ys) e in cc
