-- Rows of patterns that are within others, as the code computes them.
use Rattle.std.proofs.Common.{◌≡◌, ◌∙◌, ap, sym, refl, ℕ, zero, suc, ◌+◌, ◌<◌, ◌≤◌, Bool, true, false, cond, ◌==◌, ◌&&◌, ◌||◌, ne_eqb, List, [], ◌∷◌, Bor, map, set, drop, length, get_or, ◌⊎◌, inl, inr, arith, drop-cons, eq-eqb, replicate}
use Rattle.std.proofs.lemmas.Bool.{cases_eq}
use Rattle.std.proofs.lemmas.List.{drop_more, drop_all, drop-map, length-drop}
use Rattle.std.proofs.Common.{get_or-set_same, get_or-set_other}
use Rattle.hwdb_spec.specs.Forms.{is_star}
use Rattle.hwdb_spec.specs.Patterns.{Token, token_at}
use Rattle.hwdb_samples.specs.Internal.{IsRow, token_of}
use Rattle.hwdb_spec_commands.specs.Overlaps.{apart, first_then, is_plain, some_end, takes_all, within}

-- ---- apart

pub apart_ended : (p q : List ℕ) (i : ℕ) → length q ≤ i → apart (drop i p) (drop i q) ≡ false
unfolding apart
apart_ended p q i h = ap (apart (drop i p)) (drop_all i q h) ∙ none (drop i p)
  where
    none : (p : List ℕ) → apart p [] ≡ false
    none [] = refl
    none (a ∷ p) = refl

pub apart_begun : (p q : List ℕ) (i : ℕ) → length p ≤ i → apart (drop i p) (drop i q) ≡ false
unfolding apart
apart_begun p q i h = ap (λ (l : List ℕ). apart l (drop i q)) (drop_all i p h)

apart_at : (p q : List ℕ) (i : ℕ) → i < length p → i < length q → apart (drop i p) (drop i q) ≡ cond (is_plain (get_or p i 0) && is_plain (get_or q i 0)) (cond (get_or p i 0 == get_or q i 0) (apart (drop (i + 1) p) (drop (i + 1) q)) true) false
unfolding apart
apart_at p q i h k = ap (λ (l : List ℕ). apart l (drop i q)) (drop_more p i 0 h) ∙ ap (apart (get_or p i 0 ∷ drop (i + 1) p)) (drop_more q i 0 k)

pub apart_one : (p q : List ℕ) (i : ℕ) → i < length p → i < length q → false ≡ is_plain (get_or p i 0) → apart (drop i p) (drop i q) ≡ false
apart_one p q i h k e =
    apart_at p q i h k ∙ ap (λ (b : Bool). cond (b && is_plain (get_or q i 0)) (cond (get_or p i 0 == get_or q i 0) (apart (drop (i + 1) p) (drop (i + 1) q)) true) false) (sym e)

and_false : (b : Bool) → (b && false) ≡ false
and_false true = refl
and_false false = refl

pub apart_other : (p q : List ℕ) (i : ℕ) → i < length p → i < length q → false ≡ is_plain (get_or q i 0) → apart (drop i p) (drop i q) ≡ false
apart_other p q i h k e =
    apart_at p q i h k ∙ ap (λ (b : Bool). cond (is_plain (get_or p i 0) && b) (cond (get_or p i 0 == get_or q i 0) (apart (drop (i + 1) p) (drop (i + 1) q)) true) false) (sym e)
    ∙ ap (λ (b : Bool). cond b (cond (get_or p i 0 == get_or q i 0) (apart (drop (i + 1) p) (drop (i + 1) q)) true) false) (and_false (is_plain (get_or p i 0)))

both_plain : (p q : List ℕ) (i : ℕ) → i < length p → i < length q → true ≡ is_plain (get_or p i 0) → true ≡ is_plain (get_or q i 0) → apart (drop i p) (drop i q) ≡ cond (get_or p i 0 == get_or q i 0) (apart (drop (i + 1) p) (drop (i + 1) q)) true
both_plain p q i h k a b =
    apart_at p q i h k
    ∙ ap (λ (t : Bool). cond (t && is_plain (get_or q i 0)) (cond (get_or p i 0 == get_or q i 0) (apart (drop (i + 1) p) (drop (i + 1) q)) true) false) (sym a)
    ∙ ap (λ (t : Bool). cond t (cond (get_or p i 0 == get_or q i 0) (apart (drop (i + 1) p) (drop (i + 1) q)) true) false) (sym b)

pub apart_differ : (p q : List ℕ) (i : ℕ) → i < length p → i < length q → true ≡ is_plain (get_or p i 0) → true ≡ is_plain (get_or q i 0) → (get_or p i 0 ≡ get_or q i 0 → ⊥) → apart (drop i p) (drop i q) ≡ true
apart_differ p q i h k a b ne =
    both_plain p q i h k a b ∙ ap (λ (t : Bool). cond t (apart (drop (i + 1) p) (drop (i + 1) q)) true) (ne_eqb (get_or p i 0) (get_or q i 0) ne)

pub apart_next : (p q : List ℕ) (i : ℕ) → i < length p → i < length q → true ≡ is_plain (get_or p i 0) → true ≡ is_plain (get_or q i 0) → get_or p i 0 ≡ get_or q i 0 → apart (drop i p) (drop i q) ≡ apart (drop (i + 1) p) (drop (i + 1) q)
apart_next p q i h k a b e =
    both_plain p q i h k a b ∙ ap (λ (t : Bool). cond t (apart (drop (i + 1) p) (drop (i + 1) q)) true) (eq-eqb (get_or p i 0) (get_or q i 0) e)

-- ---- cells

some_at : (o : Token) (t : Token) (ps qs : List Token) → true ≡ is_star o → (within qs (t ∷ ps) || within (o ∷ qs) ps) ≡ within (o ∷ qs) (t ∷ ps)
unfolding within some_end
some_at o t ps qs s =
    elim (is_star o) as (λ (b : Bool). true ≡ b → (within qs (t ∷ ps) || cond b (some_end (within qs) ps) (first_then o (within qs) ps)) ≡ cond b (some_end (within qs) (t ∷ ps)) (first_then o (within qs) (t ∷ ps))) [
      | true ↦ λ e. elim (within qs (t ∷ ps)) as (λ (b : Bool). (b || some_end (within qs) ps) ≡ cond b true (some_end (within qs) ps)) [ true ↦ refl | false ↦ refl ]
      | false ↦ λ e. absurd (cc)
    ] s

pub star_here : (o t : Token) (ps qs : List Token) → true ≡ is_star o → true ≡ within qs (t ∷ ps) → true ≡ within (o ∷ qs) (t ∷ ps)
star_here o t ps qs s h = ap (λ (b : Bool). b || within (o ∷ qs) ps) h ∙ some_at o t ps qs s

pub star_next : (o t : Token) (ps qs : List Token) (next : Bool) → true ≡ is_star o → false ≡ within qs (t ∷ ps) → next ≡ within (o ∷ qs) ps → next ≡ within (o ∷ qs) (t ∷ ps)
star_next o t ps qs next s h n = n ∙ ap (λ (b : Bool). b || within (o ∷ qs) ps) h ∙ some_at o t ps qs s

pub one_cell : (o t : Token) (ps qs : List Token) (after takes : Bool) → false ≡ is_star o → after ≡ within qs ps → takes ≡ takes_all o t → (after && takes) ≡ within (o ∷ qs) (t ∷ ps)
unfolding within
one_cell o t ps qs after takes s a k =
    ap (λ (b : Bool). b && takes) a ∙ ap (λ (b : Bool). within qs ps && b) k
    ∙ ap (λ (b : Bool). cond b (some_end (within qs) (t ∷ ps)) (first_then o (within qs) (t ∷ ps))) s

pub star_end : (o : Token) (qs : List Token) (here : Bool) → true ≡ is_star o → here ≡ within qs [] → here ≡ within (o ∷ qs) []
unfolding within some_end
star_end o qs here s h = h ∙ ap (λ (b : Bool). cond b (some_end (within qs) []) (first_then o (within qs) [])) s

pub one_end : (o : Token) (qs : List Token) → false ≡ is_star o → false ≡ within (o ∷ qs) []
unfolding within
one_end o qs s = ap (λ (b : Bool). cond b (some_end (within qs) []) (first_then o (within qs) [])) s

-- ---- rows

-- a value at its place, whatever is taken after the end
pub own_value : (xs : List Bool) (i : ℕ) (x d : Bool) → i < length xs → x ≡ get_or xs i x → x ≡ get_or xs i d
own_value [] i x d h e = absurd (omega arith)
own_value (y ∷ xs) zero x d h e = e
own_value (y ∷ xs) (suc i) x d h e = own_value xs i x d (omega arith) e

abbrev pub RowSoFar : (row next : List Bool) (ps : List Token) (o : Token) (at : ℕ) → Type 0
RowSoFar row next ps o at = (qs : List Token) → IsRow row ps qs → (k : ℕ) → at ≤ k → k ≤ length ps → get_or next k false ≡ within (o ∷ qs) (drop k ps)

dropped_end : (ps : List Token) (k : ℕ) → length ps ≤ k → drop k ps ≡ []
dropped_end ps k h = drop_all k ps h

pub row_begun : (row next first : List Bool) (ps : List Token) (o : Token) (at : ℕ) (c : Bool) → at ≡ length ps → length first ≡ suc (length ps) → next ≡ set first at c
    → ((qs : List Token) → get_or row at false ≡ within qs [] → c ≡ within (o ∷ qs) []) → RowSoFar row next ps o at
row_begun row next first ps o at c e size n cell qs w k le h =
    let same : k ≡ at = omega (arith, le, h, e) in
    let here : get_or next k false ≡ c = ap (λ (l : List Bool). get_or l k false) n ∙ ap (λ (i : ℕ). get_or (set first at c) i false) same ∙ get_or-set_same first at c false (omega (arith, size, e)) in
    here ∙ cell qs (w at (omega (arith, e)) ∙ ap (within qs) (dropped_end ps at (omega (arith, e)))) ∙ sym (ap (within (o ∷ qs)) (dropped_end ps k (omega (arith, same, e))))

pub row_next : (row old next : List Bool) (ps : List Token) (o t : Token) (at i : ℕ) (c : Bool) → i + 1 ≡ at → at ≤ length ps → length old ≡ suc (length ps) → next ≡ set old i c → drop i ps ≡ t ∷ drop at ps
    → ((us qs : List Token) → get_or row i false ≡ within qs (t ∷ us) → get_or row at false ≡ within qs us → get_or old at false ≡ within (o ∷ qs) us → c ≡ within (o ∷ qs) (t ∷ us))
    → RowSoFar row old ps o at → RowSoFar row next ps o i
row_next row old next ps o t at i c e le size n head cell s qs w k ge h = by (cases_eq k i)
  where
    by : (k ≡ i) ⊎ (k ≡ i → ⊥) → get_or next k false ≡ within (o ∷ qs) (drop k ps)
    by (inl same) =
        let here : get_or next k false ≡ c = ap (λ (l : List Bool). get_or l k false) n ∙ ap (λ (j : ℕ). get_or (set old i c) j false) same ∙ get_or-set_same old i c false (omega (arith, size, e, le)) in
        here ∙ cell (drop at ps) qs (w i (omega (arith, e, le)) ∙ ap (within qs) head) (w at le) (s qs w at (omega arith) le) ∙ sym (ap (within (o ∷ qs)) (ap (λ (j : ℕ). drop j ps) same ∙ head))
    by (inr ne) =
        let there : get_or next k false ≡ get_or old k false = ap (λ (l : List Bool). get_or l k false) n ∙ get_or-set_other old i k c false ne in
        there ∙ s qs w k (omega (arith, ge, e, ne)) h

pub row_done : (row next : List Bool) (ps : List Token) (o : Token) (qs : List Token) → RowSoFar row next ps o 0 → IsRow row ps qs → IsRow next ps (o ∷ qs)
row_done row next ps o qs s w k h = s qs w k (omega arith) h

-- nothing is within no token
nothing_within : (ps : List Token) → 0 < length ps → false ≡ within [] ps
unfolding within
nothing_within [] h = absurd (omega arith)
nothing_within (t ∷ ps) h = refl

nothing_there : within [] [] ≡ true
unfolding within
nothing_there = refl

marks : (n k : ℕ) → get_or (replicate n false) k false ≡ false
marks zero k = refl
marks (suc n) zero = refl
marks (suc n) (suc k) = marks n k

marks_size : (n : ℕ) → length (replicate n false) ≡ n
marks_size zero = refl
marks_size (suc n) = ap suc (marks_size n)

pub end_row : (row first : List Bool) (ps : List Token) (n : ℕ) → n ≡ length ps → first ≡ replicate (n + 1) false → row ≡ set first n true → IsRow row ps []
end_row row first ps n e all r k h = by (cases_eq k n)
  where
    size : length first ≡ n + 1
    size = ap length all ∙ marks_size (n + 1)

    by : (k ≡ n) ⊎ (k ≡ n → ⊥) → get_or row k false ≡ within [] (drop k ps)
    by (inl same) =
        ap (λ (l : List Bool). get_or l k false) r ∙ ap (λ (i : ℕ). get_or (set first n true) i false) same ∙ get_or-set_same first n true false (omega (arith, size))
        ∙ sym nothing_there ∙ sym (ap (within []) (dropped_end ps k (omega (arith, same, e))))
    by (inr ne) =
        let there : get_or row k false ≡ get_or first k false = ap (λ (l : List Bool). get_or l k false) r ∙ get_or-set_other first n k true false ne in
        let left = length-drop k ps in
        there ∙ ap (λ (l : List Bool). get_or l k false) all ∙ marks (n + 1) k ∙ nothing_within (drop k ps) (omega (arith, left, h, ne, e))

-- the place of a token's text, mapped
pub dropped_token : (texts : List (Bor (List ℕ))) (i at : ℕ) (text d : Bor (List ℕ)) → i + 1 ≡ at → at ≤ length texts → text ≡ get_or texts i d → drop i (map token_of texts) ≡ token_at text.now ∷ drop at (map token_of texts)
dropped_token texts i at text d e le is =
    let up : suc i ≡ at = omega (arith, e) in
    drop-map token_of i texts
    ∙ ap (map token_of) (drop-cons texts i d (omega (arith, e, le)) ∙ ap (λ (x : Bor (List ℕ)). x ∷ drop (suc i) texts) (sym is))
    ∙ ap (λ (l : List Token). token_at text.now ∷ l) (sym (drop-map token_of (suc i) texts) ∙ ap (λ (j : ℕ). drop j (map token_of texts)) up)

pub within_all : (cells : List Bool) (first : Bool) (ps qs : List Token) (at : ℕ) → at ≤ 0 → 0 < length cells → first ≡ get_or cells 0 first → IsRow cells ps (drop at qs) → first ≡ within qs ps
within_all cells first ps qs at e some f w =
    let none : at ≡ 0 = omega (arith, e) in
    own_value cells 0 first false some f ∙ w 0 (omega arith) ∙ ap (λ (i : ℕ). within (drop i qs) ps) none
