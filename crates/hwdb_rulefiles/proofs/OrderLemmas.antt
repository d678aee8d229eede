-- Tokens, rank by rank.
use Rattle.std.proofs.Common.{◌≡◌, ℕ, zero, suc, ◌+◌, ◌-◌, ◌<◌, Bool, true, false, cond, not, List, [], ◌∷◌, ◌++◌, map, filter, refl, sym, ap, ◌∙◌, arith, append_assoc, append-nil, ◌==◌, inl, inr, ◌⊎◌}
use Rattle.std.proofs.lemmas.Bool.{cases_Bool}
use Rattle.std.proofs.lemmas.Bool.Decides.{nat_tests}
use Rattle.hwdb_rulefiles.specs.RuleTokens.{Token}
use Rattle.hwdb_rulefiles.specs.RuleOrder.{rank, has_rank, lacks_rank, by_rank}

same_rank : (m n : ℕ) → (m == n) ≡ true → m ≡ n
same_rank m n h = grind (arith, nat_tests)

other_rank : (k m n : ℕ) → k ≡ m → m < n → (k == n) ≡ false
other_rank k m n e h = grind (arith, nat_tests)

-- tokens of a later rank aren't lost with those of an earlier one
kept : (w n : ℕ) → w < n → (ts : List Token) → filter (has_rank n) (filter (lacks_rank w) ts) ≡ filter (has_rank n) ts
kept w n le [] = refl
kept w n le (t ∷ ts) =
    elim (cases_Bool (has_rank w t)) [
      | inl h ↦ rw (h, other_rank (rank t.kind) w n (same_rank (rank t.kind) w h) le) (kept w n le ts)
      | inr h ↦ rw h (ap (λ (l : List Token). cond (has_rank n t) (t ∷ l) l) (kept w n le ts))
    ]

later : (most n w : ℕ) → w < n → (ts : List Token) → by_rank most n (filter (lacks_rank w) ts) ≡ by_rank most n ts
unfolding by_rank
later zero n w h ts = refl
later (suc most) n w h ts =
    ap (λ (l : List Token). l ++ by_rank most (n + 1) (filter (lacks_rank w) ts)) (kept w n h ts)
    ∙ ap (λ (l : List Token). filter (has_rank n) ts ++ l) (later most (n + 1) w (omega arith) ts)

one_more : (m most n : ℕ) → most ≡ suc m → (ts : List Token) → by_rank most n ts ≡ filter (has_rank n) ts ++ by_rank m (n + 1) ts
unfolding by_rank
one_more m most n e ts = ap (λ (k : ℕ). by_rank k n ts) e

-- one rank more
pub one_rank : (most n : ℕ) (sorted next rest others : List Token) → 0 < most → next ≡ sorted ++ filter (has_rank n) rest → others ≡ filter (lacks_rank n) rest
    → next ++ by_rank (most - 1) (n + 1) others ≡ sorted ++ by_rank most n rest
one_rank most n sorted next rest others h e o =
    ap (λ (l : List Token). l ++ by_rank (most - 1) (n + 1) others) e
    ∙ append_assoc sorted (filter (has_rank n) rest) (by_rank (most - 1) (n + 1) others)
    ∙ ap (λ (l : List Token). sorted ++ (filter (has_rank n) rest ++ l)) (ap (by_rank (most - 1) (n + 1)) o ∙ later (most - 1) (n + 1) n (omega arith) rest)
    ∙ ap (λ (l : List Token). sorted ++ l) (sym (one_more (most - 1) most n (omega arith) rest))

pub none : (most n : ℕ) → by_rank most n [] ≡ []
unfolding by_rank
none zero n = refl
none (suc most) n = none most (n + 1)

pub no_rank : (most n : ℕ) (ts : List Token) → most ≡ 0 → by_rank most n ts ≡ []
unfolding by_rank
no_rank most n ts e = ap (λ (k : ℕ). by_rank k n ts) e

filter_snoc : (p : Token → Bool) (ts : List Token) (t : Token) → filter p (ts ++ (t ∷ [])) ≡ filter p ts ++ cond (p t) (t ∷ []) []
filter_snoc p [] t = refl
filter_snoc p (u ∷ ts) t =
    elim (cases_Bool (p u)) [
      | inl h ↦ rw h (ap (λ (l : List Token). u ∷ l) (filter_snoc p ts t))
      | inr h ↦ rw h (filter_snoc p ts t)
    ]

-- the tokens so far, with one more
pub one_token : (p : Token → Bool) (before sofar next ts : List Token) (t : Token) → sofar ≡ before ++ filter p ts → next ≡ sofar ++ filter p (t ∷ [])
    → next ≡ before ++ filter p (ts ++ (t ∷ []))
one_token p before sofar next ts t e n =
    n ∙ ap (λ (l : List Token). l ++ filter p (t ∷ [])) e ∙ append_assoc before (filter p ts) (filter p (t ∷ [])) ∙ ap (λ (l : List Token). before ++ l) (sym (filter_snoc p ts t))

pub map_snoc : {X Y : Type 0} (f : X → Y) (xs : List X) (x : X) → map f (xs ++ (x ∷ [])) ≡ map f xs ++ (f x ∷ [])
map_snoc f [] x = refl
map_snoc f (y ∷ xs) x = ap (λ r. f y ∷ r) (map_snoc f xs x)
