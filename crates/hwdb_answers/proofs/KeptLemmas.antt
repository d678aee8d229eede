-- Hits of which one more is looked for than may be held.
use Rattle.std.proofs.Common.{◌≡◌, ◌∙◌, ◌≤◌, ◌<◌, ap, sym, refl, ℕ, zero, suc, List, [], ◌∷◌, Option, None, Some, IfSome, length, take, arith}
use Rattle.std.proofs.lemmas.List.{take_all}
use Rattle.hwdb_spec.specs.Assignment.{Assignment}
use Rattle.hwdb_spec.specs.Texts.{within_limit}

-- if fewer are taken than may be, these are all
all_taken : (n : ℕ) (xs : List Assignment) → length (take n xs) < n → take n xs ≡ xs
all_taken zero xs few = absurd (omega (arith, few))
all_taken (suc n) [] few = refl
all_taken (suc n) (x ∷ xs) few = ap (λ (l : List Assignment). x ∷ l) (all_taken n xs (omega (arith, few)))

-- so a greater limit, or none, leaves the same
pub few_within : (most : ℕ) (limit : Option ℕ) (hits : List Assignment) → IfSome limit (λ n. most < n) → length (take (suc most) hits) ≤ most → take (suc most) hits ≡ within_limit limit hits
few_within most None hits more few = all_taken (suc most) hits (omega (arith, few))
few_within most (Some n) hits more few =
    let all : take (suc most) hits ≡ hits = all_taken (suc most) hits (omega (arith, few)) in
    all ∙ sym (take_all n hits (omega (arith, more, few, ap length all)))
