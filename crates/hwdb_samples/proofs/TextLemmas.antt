-- Texts made of patterns.
use Rattle.std.proofs.Common.{◌≡◌, ◌∙◌, ap, sym, refl, ℕ, ◌+◌, ◌<◌, ◌≤◌, Bool, true, false, cond, ◌==◌, ne_eqb, List, [], ◌∷◌, drop, length, get_or, Option, Some, None, option_map, arith, ◌⊎◌, inl, inr, subst}
use Rattle.std.proofs.lemmas.Bool.{cases_eq}
use Rattle.std.proofs.lemmas.List.{drop_more, drop_all}
use Rattle.std.specs.Prelude.{find}
use Rattle.std.specs.Option.{option_map_or}
use Rattle.hwdb_spec.specs.Patterns.{Bracket, Token, star, one, bracket, literal, bracket_at, token_at}
use Rattle.hwdb_pattern.specs.Internal.Parts.{bracket_size}
use Rattle.hwdb_spec_commands.specs.SampleTexts.{is_one, literal_of, or_zero}

-- the token of its first byte
first_token : (b : ℕ) (x : Token) → (b ≡ 42 → ⊥) → (b ≡ 63 → ⊥) → (b ≡ 91 → ⊥) → cond (b == 42) star (cond (b == 63) one (cond (b == 91) x (literal b))) ≡ literal b
first_token b x s o k = rw (ne_eqb b 42 s) (rw (ne_eqb b 63 o) (rw (ne_eqb b 91 k) refl))

pub no_literal : (text : List ℕ) → length text ≡ 0 → literal_of (token_at text) ≡ Some 0
unfolding token_at
no_literal [] e = refl
no_literal (b ∷ rest) e = absurd (omega (arith, e))

pub star_literal : (text : List ℕ) → 0 < length text → get_or text 0 0 ≡ 42 → literal_of (token_at text) ≡ None
unfolding token_at
star_literal [] h e = absurd (omega arith)
star_literal (b ∷ rest) h e = rw e refl

pub mark_literal : (text : List ℕ) → 0 < length text → get_or text 0 0 ≡ 63 → literal_of (token_at text) ≡ None
unfolding token_at
mark_literal [] h e = absurd (omega arith)
mark_literal (b ∷ rest) h e = rw e refl

pub own_literal : (text : List ℕ) → 0 < length text → (get_or text 0 0 ≡ 42 → ⊥) → (get_or text 0 0 ≡ 63 → ⊥) → (get_or text 0 0 ≡ 91 → ⊥) → literal_of (token_at text) ≡ Some (get_or text 0 0)
unfolding token_at
own_literal [] h s o k = absurd (omega arith)
own_literal (b ∷ rest) h s o k = ap literal_of (first_token b _ s o k)

-- an open one
open_is : (rest : List ℕ) (o : Option Bracket) → bracket_at (91 ∷ rest) ≡ o → literal_of (token_at (91 ∷ rest)) ≡ literal_of (option_map_or bracket o (literal 91))
unfolding token_at
open_is rest o e = ap (λ (o : Option Bracket). literal_of (option_map_or bracket o (literal 91))) e

sized : (n : ℕ) (o : Option Bracket) → option_map bracket_size o ≡ Some n → literal_of (option_map_or bracket o (literal 91)) ≡ None
sized n None k = absurd (cc)
sized n (Some f) k = refl

unsized : (o : Option Bracket) → option_map bracket_size o ≡ None → literal_of (option_map_or bracket o (literal 91)) ≡ Some 91
unsized None k = refl
unsized (Some f) k = absurd (cc)

pub open_some : (text : List ℕ) (n : ℕ) → 0 < length text → get_or text 0 0 ≡ 91 → option_map bracket_size (bracket_at text) ≡ Some n → literal_of (token_at text) ≡ None
open_some [] n h e k = absurd (omega arith)
open_some (b ∷ rest) n h e k =
    subst (λ (x : ℕ). option_map bracket_size (bracket_at (x ∷ rest)) ≡ Some n → literal_of (token_at (x ∷ rest)) ≡ None) (sym e)
    (λ j. open_is rest (bracket_at (91 ∷ rest)) refl ∙ sized n (bracket_at (91 ∷ rest)) j) k

pub open_none : (text : List ℕ) → 0 < length text → get_or text 0 0 ≡ 91 → option_map bracket_size (bracket_at text) ≡ None → literal_of (token_at text) ≡ Some 91
open_none [] h e k = absurd (omega arith)
open_none (b ∷ rest) h e k =
    subst (λ (x : ℕ). option_map bracket_size (bracket_at (x ∷ rest)) ≡ None → literal_of (token_at (x ∷ rest)) ≡ Some 91) (sym e)
    (λ j. open_is rest (bracket_at (91 ∷ rest)) refl ∙ unsized (bracket_at (91 ∷ rest)) j) k

-- whether a list has members
module _ {A : Type 0} where
  pub some_there : (xs : List A) → false ≡ (length xs == 0) → 0 < length xs
  some_there [] e = absurd (cc)
  some_there (x ∷ xs) e = omega arith

  pub none_there : (xs : List A) → true ≡ (length xs == 0) → length xs ≡ 0
  none_there [] e = refl
  none_there (x ∷ xs) e = absurd (let clash : true ≡ false = e ∙ ne_eqb (length (x ∷ xs)) 0 (λ z. absurd (omega (arith, z))) in cc)

-- whether it is `?`
pub no_one : (text : List ℕ) → length text ≡ 0 → false ≡ is_one (token_at text)
unfolding token_at
no_one [] e = refl
no_one (b ∷ rest) e = absurd (omega (arith, e))

bracket_or : (o : Option Bracket) → false ≡ is_one (option_map_or bracket o (literal 91))
bracket_or None = refl
bracket_or (Some f) = refl

pub first_one : (text : List ℕ) → 0 < length text → (get_or text 0 0 == 63) ≡ is_one (token_at text)
unfolding token_at
first_one [] h = absurd (omega arith)
first_one (b ∷ rest) h = star_or (cases_eq b 42)
  where
    other : (b ≡ 42 → ⊥) → (b ≡ 63 → ⊥) → (b ≡ 91) ⊎ (b ≡ 91 → ⊥) → (b == 63) ≡ is_one (token_at (b ∷ rest))
    other s o (inl e) = rw e (bracket_or (bracket_at (91 ∷ rest)))
    other s o (inr k) = ne_eqb b 63 o ∙ sym (ap is_one (first_token b _ s o k))

    mark_or : (b ≡ 42 → ⊥) → (b ≡ 63) ⊎ (b ≡ 63 → ⊥) → (b == 63) ≡ is_one (token_at (b ∷ rest))
    mark_or s (inl e) = rw e refl
    mark_or s (inr o) = other s o (cases_eq b 91)

    star_or : (b ≡ 42) ⊎ (b ≡ 42 → ⊥) → (b == 63) ≡ is_one (token_at (b ∷ rest))
    star_or (inl e) = rw e refl
    star_or (inr s) = mark_or s (cases_eq b 63)

-- ---- the first byte that passes

found_at : (p : ℕ → Bool) (xs : List ℕ) (i : ℕ) → i < length xs → find p (drop i xs) ≡ cond (p (get_or xs i 0)) (Some (get_or xs i 0)) (find p (drop (i + 1) xs))
found_at p xs i h = ap (find p) (drop_more xs i 0 h)

pub find_here : (p : ℕ → Bool) (xs : List ℕ) (i : ℕ) → i < length xs → p (get_or xs i 0) ≡ true → find p (drop i xs) ≡ find p xs → get_or xs i 0 ≡ or_zero (find p xs)
find_here p xs i h t so_far = ap (λ (b : Bool). or_zero (cond b (Some (get_or xs i 0)) (find p (drop (i + 1) xs)))) (sym t) ∙ ap or_zero (sym (found_at p xs i h) ∙ so_far)

pub find_next : (p : ℕ → Bool) (xs : List ℕ) (i : ℕ) → i < length xs → p (get_or xs i 0) ≡ false → find p (drop i xs) ≡ find p xs → find p (drop (i + 1) xs) ≡ find p xs
find_next p xs i h f so_far = ap (λ (b : Bool). cond b (Some (get_or xs i 0)) (find p (drop (i + 1) xs))) (sym f) ∙ sym (found_at p xs i h) ∙ so_far

pub find_none : (p : ℕ → Bool) (xs : List ℕ) (i : ℕ) → length xs ≤ i → find p (drop i xs) ≡ find p xs → 0 ≡ or_zero (find p xs)
find_none p xs i h so_far = ap (λ (l : List ℕ). or_zero (find p l)) (sym (drop_all i xs h)) ∙ ap or_zero so_far
