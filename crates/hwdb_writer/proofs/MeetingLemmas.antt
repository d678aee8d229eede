-- What two lists begin with, found from the front.
use Rattle.std.proofs.Common.{◌≡◌, ◌≤◌, ◌+◌, ◌-◌, ℕ, List, [], ◌∷◌, ◌++◌, length, take, drop, ◌∙◌, subst, Bool, true, false, cond, refl, sym, ap, arith, eqb}
use Rattle.std.proofs.Math.Seq.{take-add}
use Rattle.std.specs.Prelude.{nat_eq, slice_range}
use Rattle.std.proofs.lemmas.Bool.Decides.{nat_tests}

-- what two lists begin with, and what is left of each
pub record Meeting : Type 0 where
  pub front : List ℕ
  pub left : List ℕ
  pub right : List ℕ

abbrev behind : ℕ → Meeting → Meeting
behind c m = record { front = c ∷ m.front; left = m.left; right = m.right }

unfoldable pub meet : List ℕ → List ℕ → Meeting
meet [] ys = record { front = []; left = []; right = ys }
meet (x ∷ xs) [] = record { front = []; left = x ∷ xs; right = [] }
meet (x ∷ xs) (y ∷ ys) = cond (nat_eq x y) (behind x (meet xs ys)) (record { front = []; left = x ∷ xs; right = y ∷ ys })

-- what a meeting says of its two lists
abbrev pub Differ : List ℕ → List ℕ → Type 0
Differ [] ys = Unit {0}
Differ (x ∷ xs) [] = Unit {0}
Differ (x ∷ xs) (y ∷ ys) = x ≡ y → ⊥

pub record Met (a b : List ℕ) (m : Meeting) : Type 0 where
  pub first : a ≡ m.front ++ m.left
  pub second : b ≡ m.front ++ m.right
  pub parted : Differ m.left m.right

same_byte : (x y : ℕ) → eqb x y ≡ true → x ≡ y
same_byte x y e = grind (arith, nat_tests)

other_byte : (x y : ℕ) → eqb x y ≡ false → x ≡ y → ⊥
other_byte x y e s = grind (arith, nat_tests)

met_more : (t : Bool) (x y : ℕ) (a b : List ℕ) → eqb x y ≡ t → Met a b (meet a b) → Met (x ∷ a) (y ∷ b) (cond t (behind x (meet a b)) (record { front = []; left = x ∷ a; right = y ∷ b }))
met_more true x y a b e h = record {
  first = ap (λ zs. x ∷ zs) h.first;
  second = λ i. sym (same_byte x y e) i ∷ h.second i;
  parted = h.parted;
}
met_more false x y a b e h = record { first = refl; second = refl; parted = other_byte x y e }

pub met : (a b : List ℕ) → Met a b (meet a b)
unfolding meet
met [] b = record { first = refl; second = refl; parted = tt }
met (x ∷ a) [] = record { first = refl; second = refl; parted = tt }
met (x ∷ a) (y ∷ b) = met_more (eqb x y) x y a b refl (met a b)

-- the first n elements are alike
pub record Past (n : ℕ) (a b : List ℕ) : Type 0 where
  pub first : n ≤ length a
  pub second : n ≤ length b
  pub alike : take n a ≡ take n b

-- the next eight as well
pub past_word : (n : ℕ) (a b : List ℕ) → Past n a b → n + 8 ≤ length a → n + 8 ≤ length b → slice_range a n (n + 8) ≡ slice_range b n (n + 8) → Past (n + 8) a b
past_word n a b p first second same =
    let eight : n + 8 - n ≡ 8 = omega arith in
    let word : take 8 (drop n a) ≡ take 8 (drop n b) = subst (λ m. take m (drop n a) ≡ take m (drop n b)) eight same in
    record {
      first = first;
      second = second;
      alike = take-add n 8 a ∙ (λ i. p.alike i ++ word i) ∙ sym (take-add n 8 b);
    }
