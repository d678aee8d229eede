-- The loops over the bytes of a text, and over prefixes.
use Rattle.std.proofs.Common.{◌≡◌, ℕ, ◌<◌, ◌≤◌, Bool, true, false, List, [], ◌∷◌, ◌++◌, Bor, Option, None, Some, refl, sym, ap, ◌∙◌, append_assoc, arith, drop, get_or, length, map, suc, zero}
use Rattle.std.proofs.Math.Seq.{drop-cons}
use Rattle.std.specs.Prelude.{find}
use Rattle.hwdb_spec_commands.specs.FormTable.{lower}

long_drop : (A : Type 0) (l : List A) (n : ℕ) → length l ≤ n → drop n l ≡ []
long_drop A [] zero h = refl
long_drop A [] (suc n) h = refl
long_drop A (x ∷ l) zero h = absurd (omega arith)
long_drop A (x ∷ l) (suc n) h = long_drop A l n (omega arith)

append_none : (l : List ℕ) → l ≡ l ++ []
append_none [] = refl
append_none (x ∷ l) = ap (λ r. x ∷ r) (append_none l)

pub byte_lowered : (text old new : List ℕ) (i n d b : ℕ) → i < length text → n ≡ suc i → b ≡ lower (get_or text i d) → new ≡ old ++ b ∷ [] → old ++ map lower (drop i text) ≡ map lower text → new ++ map lower (drop n text) ≡ map lower text
byte_lowered text old new i n d b h e k v w =
    ap (λ (l : List ℕ). l ++ map lower (drop n text)) v
    ∙ append_assoc old (b ∷ []) (map lower (drop n text))
    ∙ ap (λ (l : List ℕ). old ++ l) (rw (e, k) refl ∙ sym (ap (map lower) (drop-cons text i d h)))
    ∙ w

pub all_lowered : (text made : List ℕ) (i : ℕ) → length text ≤ i → made ++ map lower (drop i text) ≡ map lower text → made ≡ map lower text
all_lowered text made i h w = append_none made ∙ ap (λ (l : List ℕ). made ++ map lower l) (sym (long_drop ℕ text i h)) ∙ w

next_found : (p : List ℕ → Bool) (l : List (Bor (List ℕ))) (i : ℕ) (d : Bor (List ℕ)) → i < length l
    → find p (map (λ x. x.now) (drop i l)) ≡ find p ((get_or l i d).now ∷ map (λ x. x.now) (drop (suc i) l))
next_found p l i d h = rw (drop-cons l i d h) refl

found_if : (p : List ℕ → Bool) (x : List ℕ) (more : List (List ℕ)) → p x ≡ true → find p (x ∷ more) ≡ Some x
found_if p x more e = rw e refl

passed_if : (p : List ℕ → Bool) (x : List ℕ) (more : List (List ℕ)) → p x ≡ false → find p (x ∷ more) ≡ find p more
passed_if p x more e = rw e refl

pub prefix_found : (p : List ℕ → Bool) (l : List (Bor (List ℕ))) (i : ℕ) (d : Bor (List ℕ)) (near : Bool) (whole : Option (List ℕ)) → i < length l → near ≡ p (get_or l i d).now → near ≡ true
    → find p (map (λ x. x.now) (drop i l)) ≡ whole → Some (get_or l i d).now ≡ whole
prefix_found p l i d near whole h e t w =
    sym (next_found p l i d h ∙ found_if p (get_or l i d).now (map (λ x. x.now) (drop (suc i) l)) (sym e ∙ t)) ∙ w

pub prefix_passed : (p : List ℕ → Bool) (l : List (Bor (List ℕ))) (i n : ℕ) (d : Bor (List ℕ)) (near : Bool) (whole : Option (List ℕ)) → i < length l → n ≡ suc i → near ≡ p (get_or l i d).now → near ≡ false
    → find p (map (λ x. x.now) (drop i l)) ≡ whole → find p (map (λ x. x.now) (drop n l)) ≡ whole
prefix_passed p l i n d near whole h k e t w =
    ap (λ (j : ℕ). find p (map (λ x. x.now) (drop j l))) k
    ∙ sym (next_found p l i d h ∙ passed_if p (get_or l i d).now (map (λ x. x.now) (drop (suc i) l)) (sym e ∙ t)) ∙ w

pub no_prefix : (p : List ℕ → Bool) (l : List (Bor (List ℕ))) (i : ℕ) (whole : Option (List ℕ)) → length l ≤ i → find p (map (λ x. x.now) (drop i l)) ≡ whole → None ≡ whole
no_prefix p l i whole h w = ap (λ (r : List (Bor (List ℕ))). find p (map (λ x. x.now) r)) (sym (long_drop (Bor (List ℕ)) l i h)) ∙ w
