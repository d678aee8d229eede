-- Texts whose letters are compared, seen from where one ends.
use Rattle.std.proofs.Common.{◌≡◌, ℕ, ◌≤◌, ◌⊎◌, inl, inr, Bool, true, false, List, [], ◌∷◌, drop, length, refl, arith, ne_eqb, eq-eqb, nat_eq}
use Rattle.std.proofs.lemmas.List.{length-drop}
use Rattle.hwdb_spec_commands.specs.Properties.{same_letters}

no_letters : (xs ys : List ℕ) (e : Bool) → (length xs ≡ 0) ⊎ (length ys ≡ 0) → (length xs ≡ length ys → e ≡ true) → ((length xs ≡ length ys → ⊥) → e ≡ false)
    → e ≡ same_letters xs ys
no_letters [] [] e s f g = f refl
no_letters [] (y ∷ ys) e s f g = g (λ q. omega (arith, q))
no_letters (x ∷ xs) [] e s f g = g (λ q. omega (arith, q))
no_letters (x ∷ xs) (y ∷ ys) e (inl q) f g = absurd (omega (arith, q))
no_letters (x ∷ xs) (y ∷ ys) e (inr q) f g = absurd (omega (arith, q))

-- one of the texts ends there
pub same_at_end : (one other : List ℕ) (at : ℕ) → at ≤ length one → at ≤ length other → (length one ≤ at) ⊎ (length other ≤ at)
    → nat_eq (length one) (length other) ≡ same_letters (drop at one) (drop at other)
same_at_end one other at h k s =
    let a = length-drop at one in
    let b = length-drop at other in
    no_letters (drop at one) (drop at other) (nat_eq (length one) (length other)) (ended s)
    (λ q. eq-eqb (length one) (length other) (omega (arith, a, b, q, h, k)))
    (λ n. ne_eqb (length one) (length other) (λ q. n (omega (arith, a, b, q, h, k))))
  where
    ended : (length one ≤ at) ⊎ (length other ≤ at) → (length (drop at one) ≡ 0) ⊎ (length (drop at other) ≡ 0)
    ended (inl p) = inl (omega (arith, length-drop at one, p))
    ended (inr p) = inr (omega (arith, length-drop at other, p))
