-- Names that a folder lists, and files that are in the folder that they are taken from.
use Rattle.std.proofs.Common.{◌≡◌, ◌∷◌, ◌∙◌, ◌||◌, arith, ap, sym, refl, zero, suc, List, ℕ, Bool, true, false, []}
use Rattle.std.specs.Prelude.{Contains}
use Rattle.hwdb_spec.specs.Folders.{lists, same}
use Rattle.hwdb_spec.specs.Lemmas.Orders.{same_itself, same_text}
use Rattle.hwdb_spec.specs.Lemmas.Truth.{or_right}

-- ---- a chosen file is in the folder that it is taken from
pub contains_of : (n : List ℕ) (xs : List (List ℕ)) → lists n xs ≡ true → Contains xs n
contains_of n [] e = cc
contains_of n (x ∷ xs) e = by (same x n) refl (contains_of n xs)
  where
    by : (b : Bool) → same x n ≡ b → (lists n xs ≡ true → Contains xs n) → Contains (x ∷ xs) n
    by true s rest = (0, omega arith, same_text x n s)
    by false s rest =
        let more = rest (ap (λ (b : Bool). b || lists n xs) (sym s) ∙ e) in
        let lt = more.1 in
        (suc more.0, omega (arith, lt), more.2)

pub lists_held : (n : List ℕ) (xs : List (List ℕ)) → Contains xs n → lists n xs ≡ true
lists_held n [] (k, lt, is) = absurd (omega (arith, lt))
lists_held n (x ∷ xs) (zero, lt, is) = ap (λ (b : Bool). b || lists n xs) (ap (λ (m : List ℕ). same m n) is ∙ same_itself n)
lists_held n (x ∷ xs) (suc k, lt, is) = or_right (same x n) (lists n xs) (lists_held n xs (k, omega (arith, lt), is))
