-- How a pattern is cut into tokens, seen from any place where a token begins.
use Rattle.std.proofs.Common.{◌≡◌, ℕ, zero, suc, ◌-◌, ◌<◌, ◌≤◌, Bool, true, false, List, [], ◌∷◌, drop, length, get_or, refl, ap, ◌∙◌, sym, Option, Some, None, cond, ◌==◌, arith, ne_eqb, eq-eqb}
use Rattle.std.proofs.lemmas.List.{drop_all}
use Rattle.hwdb_spec.specs.Patterns.{Bracket, Items, bracket_at, bracket_of, items_from, is_inversion, Token, star, one, literal, token_at, token_size, tokens_from, tokens}
use Rattle.hwdb_pattern.specs.Internal.Parts.{bracket_or_byte, token_part, bracket_part}
use Rattle.std.specs.Option.{option_map}
use Rattle.hwdb_pattern.specs.declared.brackets.Part.{Part}
use Rattle.hwdb_spec.specs.Forms.{is_star}

-- bytes of a token that was cut before are passed over
pub skipped : (skip : ℕ) (text : List ℕ) → tokens_from skip text ≡ tokens (drop skip text)
unfolding tokens_from
skipped zero text = refl
skipped (suc skip) [] = refl
skipped (suc skip) (first ∷ rest) = skipped skip rest

-- every token takes a byte
abbrev pub LongEnough : Option Bracket → Type 0
LongEnough None = Unit {0}
LongEnough (Some found) = 0 < found.size

bracket_of_long : (start : ℕ) (inverted : Bool) (o : Option Items) → 0 < start → LongEnough (bracket_of start inverted o)
bracket_of_long start inverted None h = tt
bracket_of_long start inverted (Some found) h = omega arith

cond_long : (b : Bool) (x y : Option Bracket) → LongEnough x → LongEnough y → LongEnough (cond b x y)
cond_long true x y hx hy = hx
cond_long false x y hx hy = hy

pub bracket_long : (text : List ℕ) → LongEnough (bracket_at text)
unfolding bracket_at
bracket_long [] = tt
bracket_long (first ∷ []) = tt
bracket_long (first ∷ mark ∷ rest) =
    cond_long (first == 91) _ None
    (cond_long (is_inversion mark) _ _
    (bracket_of_long 2 true (items_from true 0 rest) (omega arith))
    (bracket_of_long 1 false (items_from true 0 (mark ∷ rest)) (omega arith)))
    tt

bracket_token_long : (o : Option Bracket) → LongEnough o → 0 < token_size (bracket_or_byte o)
bracket_token_long None h = omega arith
bracket_token_long (Some found) h = h

cond_token_long : (b : Bool) (x y : Token) → 0 < token_size x → 0 < token_size y → 0 < token_size (cond b x y)
cond_token_long true x y hx hy = hx
cond_token_long false x y hx hy = hy

pub token_long : (text : List ℕ) → 0 < token_size (token_at text)
unfolding token_at
token_long [] = omega arith
token_long (first ∷ rest) =
    cond_token_long (first == 42) star _ (omega arith)
    (cond_token_long (first == 63) one _ (omega arith)
    (cond_token_long (first == 91) _ (literal first) (bracket_token_long (bracket_at (first ∷ rest)) (bracket_long (first ∷ rest))) (omega arith)))

pub drop_less : (n : ℕ) (first : ℕ) (rest : List ℕ) → 0 < n → drop (n - 1) rest ≡ drop n (first ∷ rest)
drop_less zero first rest h = absurd (omega arith)
drop_less (suc n) first rest h = ap (λ k. drop k rest) (omega arith)

-- a text that isn't empty has its first token, and then the tokens of what is left
pub first_token : (text : List ℕ) → 0 < length text → tokens text ≡ token_at text ∷ tokens (drop (token_size (token_at text)) text)
unfolding tokens_from
first_token [] h = absurd (omega arith)
first_token (first ∷ rest) h =
    ap (λ ts. token_at (first ∷ rest) ∷ ts)
    (skipped (token_size (token_at (first ∷ rest)) - 1) rest
    ∙ ap tokens (drop_less (token_size (token_at (first ∷ rest))) first rest (token_long (first ∷ rest))))

pub no_tokens : tokens [] ≡ []
unfolding tokens_from
no_tokens = refl

cond_not_star : (b : Bool) (x y : Token) → is_star x ≡ false → is_star y ≡ false → is_star (cond b x y) ≡ false
cond_not_star true x y hx hy = hx
cond_not_star false x y hx hy = hy

bracket_not_star : (o : Option Bracket) → is_star (bracket_or_byte o) ≡ false
bracket_not_star None = refl
bracket_not_star (Some found) = refl

test_not_star : (first : ℕ) (y : Token) → (first ≡ 42 → ⊥) → is_star y ≡ false → is_star (cond (first == 42) star y) ≡ false
test_not_star first y n h = rw (ne_eqb first 42 n) h

-- a text that begins with another byte than `*` begins with another token than a star
pub not_star : (text : List ℕ) → (get_or text 0 0 ≡ 42 → ⊥) → is_star (token_at text) ≡ false
unfolding token_at
not_star [] n = refl
not_star (first ∷ rest) n =
    test_not_star first _ n
    (cond_not_star (first == 63) one _ refl
    (cond_not_star (first == 91) _ (literal first) (bracket_not_star (bracket_at (first ∷ rest))) refl))

test_star : (first : ℕ) (y : Token) → first ≡ 42 → cond (first == 42) star y ≡ star
test_star first y e = rw (eq-eqb first 42 e) refl

pub star_at : (text : List ℕ) → get_or text 0 0 ≡ 42 → token_at text ≡ star
unfolding token_at
star_at [] e = cc
star_at (first ∷ rest) e = test_star first _ e

pub no_tokens_at : (text : List ℕ) (at : ℕ) → length text ≤ at → tokens (drop at text) ≡ []
no_tokens_at text at h = ap tokens (drop_all at text h) ∙ no_tokens

test_one : (first : ℕ) (y : Token) → first ≡ 63 → cond (first == 42) star (cond (first == 63) one y) ≡ one
test_one first y e = rw (ne_eqb first 42 (λ h. absurd (omega arith))) (rw (eq-eqb first 63 e) refl)

pub token_one : (text : List ℕ) → get_or text 0 0 ≡ 63 → token_at text ≡ one
unfolding token_at
token_one [] e = cc
token_one (first ∷ rest) e = test_one first _ e

test_bracket : (first : ℕ) (x y : Token) → first ≡ 91 → cond (first == 42) star (cond (first == 63) one (cond (first == 91) x y)) ≡ x
test_bracket first x y e = rw (ne_eqb first 42 (λ h. absurd (omega arith))) (rw (ne_eqb first 63 (λ h. absurd (omega arith))) (rw (eq-eqb first 91 e) refl))

pub token_bracket_or : (text : List ℕ) → get_or text 0 0 ≡ 91 → token_at text ≡ bracket_or_byte (bracket_at text)
unfolding token_at
token_bracket_or [] e = cc
token_bracket_or (first ∷ rest) e = test_bracket first _ _ e

found_part : (byte : ℕ) (o : Option Bracket) (found : Part) → Some found ≡ option_map (bracket_part byte) o → found ≡ token_part byte (bracket_or_byte o)
found_part byte None found e = cc
found_part byte (Some b) found e = cc

pub token_bracket : (text : List ℕ) (byte : ℕ) (found : Part) → get_or text 0 0 ≡ 91 → Some found ≡ option_map (bracket_part byte) (bracket_at text) → found ≡ token_part byte (token_at text)
token_bracket text byte found e q = found_part byte (bracket_at text) found q ∙ ap (token_part byte) (sym (token_bracket_or text e))

open_byte : (byte : ℕ) (o : Option Bracket) → None ≡ option_map (bracket_part byte) o → bracket_or_byte o ≡ literal 91
open_byte byte None e = refl
open_byte byte (Some b) e = cc

pub token_open : (text : List ℕ) (byte : ℕ) → get_or text 0 0 ≡ 91 → None ≡ option_map (bracket_part byte) (bracket_at text) → token_at text ≡ literal (get_or text 0 0)
token_open text byte e q = token_bracket_or text e ∙ open_byte byte (bracket_at text) q ∙ ap literal (sym e)

test_byte : (first : ℕ) (x : Token) → (first ≡ 42 → ⊥) → (first ≡ 63 → ⊥) → (first ≡ 91 → ⊥) → cond (first == 42) star (cond (first == 63) one (cond (first == 91) x (literal first))) ≡ literal first
test_byte first x a b d = rw (ne_eqb first 42 a) (rw (ne_eqb first 63 b) (rw (ne_eqb first 91 d) refl))

pub token_byte : (text : List ℕ) → 0 < length text → (get_or text 0 0 ≡ 42 → ⊥) → (get_or text 0 0 ≡ 63 → ⊥) → (get_or text 0 0 ≡ 91 → ⊥) → token_at text ≡ literal (get_or text 0 0)
unfolding token_at
token_byte [] h a b d = absurd (omega arith)
token_byte (first ∷ rest) h a b d = test_byte first _ a b d
