-- The loop over all bytes.
use Rattle.std.proofs.Common.{◌≡◌, ℕ, Bool, true, false, List, [], ◌∷◌, ◌++◌, refl, sym, ap, ◌∙◌, append_assoc, suc}
use Rattle.std.specs.Prelude.{filter, if◌then◌else◌}
use Rattle.hwdb_spec.specs.Forms.{Form, all_bytes_from, can_begin, is_expected, is_wild}
use Rattle.hwdb_spec.specs.Patterns.{tokens}

filter_by : (p : ℕ → Bool) (b : ℕ) (rest : List ℕ) (e : Bool) → p b ≡ e → filter p (b ∷ []) ++ filter p rest ≡ filter p (b ∷ rest)
filter_by p b rest true e = rw e refl
filter_by p b rest false e = rw e refl

filter_next : (p : ℕ → Bool) (n b k c : ℕ) → n ≡ suc k → c ≡ suc b → filter p (all_bytes_from n b) ≡ filter p (b ∷ []) ++ filter p (all_bytes_from k c)
unfolding all_bytes_from
filter_next p n b k c e f = rw (e, f) (sym (filter_by p b (all_bytes_from k (suc b)) (p b) refl))

pub byte_done : (p : ℕ → Bool) (n b k c : ℕ) (old new whole : List ℕ) → n ≡ suc k → c ≡ suc b → new ≡ old ++ filter p (b ∷ []) → old ++ filter p (all_bytes_from n b) ≡ whole → new ++ filter p (all_bytes_from k c) ≡ whole
byte_done p n b k c old new whole e f h w =
    ap (λ (l : List ℕ). l ++ filter p (all_bytes_from k c)) h
    ∙ append_assoc old (filter p (b ∷ [])) (filter p (all_bytes_from k c))
    ∙ ap (λ (l : List ℕ). old ++ l) (sym (filter_next p n b k c e f))
    ∙ w

append_none : (l : List ℕ) → l ≡ l ++ []
append_none [] = refl
append_none (x ∷ l) = ap (λ r. x ∷ r) (append_none l)

pub last_done : (p : ℕ → Bool) (n b : ℕ) (old new whole : List ℕ) → n ≡ 1 → new ≡ old ++ filter p (b ∷ []) → old ++ filter p (all_bytes_from n b) ≡ whole → new ≡ whole
unfolding all_bytes_from
last_done p n b old new whole e h w = append_none new ∙ byte_done p n b 0 (suc b) old new whole e refl h w

-- a byte that is asked, or that is a wildcard
pub wild_passed : (forms : List Form) (front : List ℕ) (b : ℕ) (old : List ℕ) → is_wild b ≡ true → old ≡ old ++ filter (is_expected forms front) (b ∷ [])
wild_passed forms front b old e = append_none old ∙ ap (λ (l : List ℕ). old ++ l) (by (is_wild b) _ e)
  where
    by : (w m : Bool) → w ≡ true → [] ≡ (if (if w then false else m) then b ∷ [] else [])
    by true m e = refl
    by false m e = cc

pub asked_put : (forms : List Form) (front : List ℕ) (b : ℕ) (met : Bool) (old new : List ℕ) → is_wild b ≡ false → met ≡ can_begin forms (tokens (front ++ b ∷ [])) → met ≡ true → new ≡ old ++ b ∷ []
    → new ≡ old ++ filter (is_expected forms front) (b ∷ [])
asked_put forms front b met old new w e t n = n ∙ ap (λ (l : List ℕ). old ++ l) (by (is_wild b) _ w (sym e ∙ t))
  where
    by : (w m : Bool) → w ≡ false → m ≡ true → b ∷ [] ≡ (if (if w then false else m) then b ∷ [] else [])
    by true m e f = cc
    by false true e f = refl
    by false false e f = cc

pub asked_passed : (forms : List Form) (front : List ℕ) (b : ℕ) (met : Bool) (old : List ℕ) → is_wild b ≡ false → met ≡ can_begin forms (tokens (front ++ b ∷ [])) → met ≡ false
    → old ≡ old ++ filter (is_expected forms front) (b ∷ [])
asked_passed forms front b met old w e t = append_none old ∙ ap (λ (l : List ℕ). old ++ l) (by (is_wild b) _ w (sym e ∙ t))
  where
    by : (w m : Bool) → w ≡ false → m ≡ false → [] ≡ (if (if w then false else m) then b ∷ [] else [])
    by true m e f = cc
    by false true e f = cc
    by false false e f = refl
