-- Lengths in a list, and one token more.
use Rattle.std.proofs.Common.{◌≡◌, ℕ, zero, suc, ◌+◌, ◌<◌, ◌^◌, Bool, true, false, List, [], ◌∷◌, ◌++◌, take, drop, length, get_or, set, refl, ap, ◌∙◌, sym, subst, cond, arith, append_assoc}
use Rattle.std.specs.Prelude.{map, filter, All, Contains}
use Rattle.std.proofs.lemmas.List.{take_more, drop_more, get_or_at, set_at, length-take-le, length-map, map-append, get_or_default, drop_all, take_at}
use Rattle.hwdb_spec.specs.Patterns.{Token}
use Rattle.hwdb_pattern.specs.Views.{takes, NoneTakes}
use Rattle.hwdb_pattern.specs.Internal.Prefixes.{stepped, Steps}
use Rattle.hwdb_pattern.proofs.PathLemmas.{takes_below, steps_stepped}

pub advance_step : (ys xs : List ℕ) (i : ℕ) → i < length ys → xs ≡ map (λ n. n + 1) (take i ys) ++ drop i ys
    → set xs i (get_or xs i 0 + 1) ≡ map (λ n. n + 1) (take (i + 1) ys) ++ drop (i + 1) ys
advance_step ys xs i h e =
    let p : List ℕ = map (λ n. n + 1) (take i ys) in
    let y : ℕ = get_or ys i 0 in
    let r : List ℕ = drop (i + 1) ys in
    let l : length p ≡ i = length-map (take i ys) (λ n. n + 1) ∙ length-take-le i ys (omega arith) in
    let f : xs ≡ p ++ y ∷ r = e ∙ ap (λ (d : List ℕ). p ++ d) (drop_more ys i 0 h) in
    let g : get_or xs i 0 ≡ y = ap (λ (d : List ℕ). get_or d i 0) f ∙ get_or_at p y r 0 i l in
    let k : map (λ n. n + 1) (take (i + 1) ys) ≡ p ++ (y + 1) ∷ [] = ap (map (λ n. n + 1)) (take_more ys i 0 h) ∙ map-append (λ n. n + 1) (take i ys) (y ∷ []) in
    ap (λ (n : ℕ). set xs i (n + 1)) g ∙ ap (λ (d : List ℕ). set d i (y + 1)) f ∙ set_at p y r (y + 1) i l
    ∙ sym (ap (λ (d : List ℕ). d ++ r) k ∙ append_assoc p ((y + 1) ∷ []) r)

below_case : (t : Token) (device : List ℕ) (x : ℕ) (ys : List ℕ) (c : Bool) → takes t device x ≡ c → All (λ n. n < length device) ys
    → (k d : ℕ) → k < length (cond c (x ∷ ys) ys) → get_or (cond c (x ∷ ys) ys) k d < length device
below_case t device x ys true e ih zero d h = takes_below t device x e
below_case t device x ys true e ih (suc k) d h = ih k d (omega arith)
below_case t device x ys false e ih k d h = ih k d h

-- the lengths that are kept are below the device's
kept_below : (t : Token) (device xs : List ℕ) → All (λ n. n < length device) (filter (takes t device) xs)
kept_below t device [] k d h = absurd (omega arith)
kept_below t device (x ∷ xs) k d h = below_case t device x (filter (takes t device) xs) (takes t device x) refl (kept_below t device xs) k d h

pub kept_fits : (t : Token) (device xs ys : List ℕ) → length device < 2 ^ 64 → ys ≡ filter (takes t device) xs → All (λ n. n + 1 < 2 ^ 64) ys
kept_fits t device xs ys z e k d h =
    let w : get_or (filter (takes t device) xs) k d < length device = kept_below t device xs k d (omega (arith, ap length e)) in
    let g : get_or ys k d ≡ get_or (filter (takes t device) xs) k d = ap (λ (l : List ℕ). get_or l k d) e in
    omega (arith, w, g)

-- what is kept and made one more, in place
pub steps_list : (t : Token) (device before kept after : List ℕ) → kept ≡ filter (takes t device) before → after ≡ map (λ n. n + 1) kept → Steps t device before after
steps_list t device before kept after k a = subst (Steps t device before) (sym (a ∙ ap (map (λ n. n + 1)) k)) (steps_stepped t device before)

-- none of the lengths before a place, by a member's place
pub none_taken : (t : Token) (device lengths : List ℕ) → ((k : ℕ) → k < length lengths → takes t device (get_or lengths k 0) ≡ false) → NoneTakes t device lengths
none_taken t device lengths none n c = ap (takes t device) (sym (same c.2)) ∙ none c.0 c.1
  where
    same : get_or lengths c.0 n ≡ n → get_or lengths c.0 0 ≡ n
    same e = get_or_default lengths c.0 0 n c.1 ∙ e

-- all of a list is written over by its members made one more
pub written_over : (n : ℕ) (new old seen : List ℕ) → n ≡ length old → seen ≡ old → new ≡ map (λ m. m + 1) seen → take n (new ++ drop (length new) old) ≡ map (λ m. m + 1) old
written_over n new old seen z s e =
    let f : new ≡ map (λ m. m + 1) old = e ∙ ap (map (λ m. m + 1)) s in
    let size : length new ≡ length old = ap length f ∙ length-map old (λ m. m + 1) in
    ap (λ k. take n (new ++ k)) (drop_all (length new) old (omega (arith, size))) ∙ take_at new [] n (size ∙ sym z) ∙ f

-- a list of one member
pub lone_member : (l : List ℕ) (d : ℕ) → length l ≡ 1 → get_or l 0 d ∷ [] ≡ l
lone_member [] d e = cc
lone_member (x ∷ []) d e = refl
lone_member (x ∷ y ∷ l) d e = absurd (omega arith)
