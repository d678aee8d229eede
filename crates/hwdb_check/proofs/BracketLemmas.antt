-- Patterns without a bracket.
use Rattle.std.proofs.Common.{◌≡◌, ◌∙◌, ◌-◌, ◌==◌, ◌||◌, ℕ, zero, suc, List, [], ◌∷◌, Bool, true, false, ap, cond, refl}
use Rattle.std.specs.List.{list_any}
use Rattle.std.specs.Option.{option_map_or}
use Rattle.hwdb_spec.specs.Lines.{byte, is}
use Rattle.hwdb_spec.specs.Patterns.{bracket_at, is_reversed, token_at, token_size, tokens_from}
use Rattle.hwdb_spec.specs.Patterns.Token.{bracket, literal, one, star}
use Rattle.hwdb_spec.specs.Patterns.{Token}
use Rattle.hwdb_spec.specs.Tree.{closed_from, is_open}

first_none : (x y : Bool) → (x || y) ≡ false → x ≡ false
first_none true y e = e
first_none false y e = refl

rest_none : (x y : Bool) → (x || y) ≡ false → y ≡ false
rest_none true true e = e
rest_none true false e = refl
rest_none false y e = e

-- what begins with another byte has no range
no_range : (s q o : Bool) (t : Token) (b : ℕ) → o ≡ false → is_reversed (cond s star (cond q one (cond o t (literal b)))) ≡ false
no_range true q o t b e = refl
no_range false true o t b e = refl
no_range false false true t b e = absurd (cc)
no_range false false false t b e = refl

plain : (b : ℕ) (rest : List ℕ) → is 91 b ≡ false → is_reversed (token_at (b ∷ rest)) ≡ false
unfolding token_at
plain b rest e = no_range (b == byte "*") (b == byte "?") (b == byte "[") (option_map_or bracket (bracket_at (b ∷ rest)) (literal (byte "["))) b e

pub none_reversed : (skip : ℕ) (text : List ℕ) → list_any (is 91) text ≡ false → list_any is_reversed (tokens_from skip text) ≡ false
unfolding tokens_from
none_reversed skip [] e = refl
none_reversed (suc skip) (b ∷ rest) e = none_reversed skip rest (rest_none (is 91 b) (list_any (is 91) rest) e)
none_reversed zero (b ∷ rest) e =
    let size = token_size (token_at (b ∷ rest)) - 1 in
    ap (λ (t : Bool). t || list_any is_reversed (tokens_from size rest)) (plain b rest (first_none (is 91 b) (list_any (is 91) rest) e))
    ∙ none_reversed size rest (rest_none (is 91 b) (list_any (is 91) rest) e)

-- what begins with another byte is no open bracket
not_open : (s q o : Bool) (t : Token) (b : ℕ) → o ≡ false → (b == 91) ≡ false → is_open (cond s star (cond q one (cond o t (literal b)))) ≡ false
not_open true q o t b e f = refl
not_open false true o t b e f = refl
not_open false false true t b e f = absurd (cc)
not_open false false false t b e f = f

plain_open : (b : ℕ) (rest : List ℕ) → is 91 b ≡ false → is_open (token_at (b ∷ rest)) ≡ false
unfolding token_at
plain_open b rest e = not_open (b == byte "*") (b == byte "?") (b == byte "[") (option_map_or bracket (bracket_at (b ∷ rest)) (literal (byte "["))) b e e

pub none_open : (skip : ℕ) (text : List ℕ) → list_any (is 91) text ≡ false → list_any is_open (tokens_from skip text) ≡ false
unfolding tokens_from
none_open skip [] e = refl
none_open (suc skip) (b ∷ rest) e = none_open skip rest (rest_none (is 91 b) (list_any (is 91) rest) e)
none_open zero (b ∷ rest) e =
    let size = token_size (token_at (b ∷ rest)) - 1 in
    ap (λ (t : Bool). t || list_any is_open (tokens_from size rest)) (plain_open b rest (first_none (is 91 b) (list_any (is 91) rest) e))
    ∙ none_open size rest (rest_none (is 91 b) (list_any (is 91) rest) e)

pub all_closed : (skip : ℕ) (text : List ℕ) → list_any (is 91) text ≡ false → closed_from skip text ≡ text
unfolding closed_from
all_closed skip [] e = refl
all_closed (suc skip) (b ∷ rest) e = ap (λ (l : List ℕ). b ∷ l) (all_closed skip rest (rest_none (is 91 b) (list_any (is 91) rest) e))
all_closed zero (b ∷ rest) e =
    let size = token_size (token_at (b ∷ rest)) - 1 in
    ap (λ (t : Bool). cond t [] (b ∷ closed_from size rest)) (plain_open b rest (first_none (is 91 b) (list_any (is 91) rest) e))
    ∙ ap (λ (l : List ℕ). b ∷ l) (all_closed size rest (rest_none (is 91 b) (list_any (is 91) rest) e))

neither : (b : Bool) → cond b false false ≡ false
neither true = refl
neither false = refl

-- a line without a bracket has no odd one
pub no_open_bracket : (matched : Bool) (text : List ℕ) → list_any (is 91) text ≡ false → cond matched (list_any is_open (tokens_from 0 text)) false ≡ false
no_open_bracket matched text e = ap (λ (b : Bool). cond matched b false) (none_open 0 text e) ∙ neither matched

pub no_empty_range : (matched : Bool) (text : List ℕ) → list_any (is 91) text ≡ false → cond matched (list_any is_reversed (tokens_from 0 (closed_from 0 text))) false ≡ false
no_empty_range matched text e =
    ap (λ (b : Bool). cond matched b false) (ap (λ (l : List ℕ). list_any is_reversed (tokens_from 0 l)) (all_closed 0 text e) ∙ none_reversed 0 text e) ∙ neither matched

pub no_match_line : (matched other : Bool) → matched ≡ false → cond matched other false ≡ false
no_match_line true other e = cc
no_match_line false other e = refl
