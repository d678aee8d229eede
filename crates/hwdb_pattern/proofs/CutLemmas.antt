-- A pattern that is cut into its tokens, one after the other.
use Rattle.std.proofs.Common.{◌≡◌, ℕ, ◌+◌, ◌<◌, ◌≤◌, true, false, List, [], ◌∷◌, ◌++◌, Bor, drop, length, get_or, refl, ap, ◌∙◌, sym, map, take, suc, zero, append_assoc, arith, nat_eq}
use Rattle.std.proofs.lemmas.List.{drop-drop}
use Rattle.hwdb_spec.specs.Patterns.{Token, star, one, bracket, literal, token_at, token_size, tokens, admits_byte}
use Rattle.hwdb_spec.specs.Forms
use Rattle.hwdb_pattern.proofs.TokenLemmas.{first_token, not_star, star_at, no_tokens_at}
use Rattle.hwdb_spec.specs.Forms.{is_star}

map_last : (old : List (Bor (List ℕ))) (b : Bor (List ℕ)) → map (λ text. token_at text.now) (old ++ b ∷ []) ≡ map (λ text. token_at text.now) old ++ token_at b.now ∷ []
map_last [] b = refl
map_last (x ∷ old) b = ap (λ r. token_at x.now ∷ r) (map_last old b)

drop_drop : (at size : ℕ) (text : List ℕ) → drop size (drop at text) ≡ drop (at + size) text
drop_drop at size text = drop-drop size at text

pub cut_step : (pattern : List ℕ) (old new : List (Bor (List ℕ))) (b : Bor (List ℕ)) (at size : ℕ) → b.now ≡ drop at pattern → 0 < length (drop at pattern)
    → new ≡ old ++ b ∷ [] → size ≡ token_size (token_at b.now)
    → map (λ text. token_at text.now) old ++ tokens (drop at pattern) ≡ tokens pattern
    → map (λ text. token_at text.now) new ++ tokens (drop (at + size) pattern) ≡ tokens pattern
cut_step pattern old new b at size e h n s k =
    let t : token_at b.now ≡ token_at (drop at pattern) = ap token_at e in
    let z : size ≡ token_size (token_at (drop at pattern)) = s ∙ ap token_size t in
    let next : tokens (drop at pattern) ≡ token_at (drop at pattern) ∷ tokens (drop (at + size) pattern) =
    first_token (drop at pattern) h ∙ ap (λ (r : List ℕ). token_at (drop at pattern) ∷ tokens r) (ap (λ (i : ℕ). drop i (drop at pattern)) (sym z) ∙ drop_drop at size pattern) in
    ap (λ (l : List (Bor (List ℕ))). map (λ text. token_at text.now) l ++ tokens (drop (at + size) pattern)) n
    ∙ ap (λ (l : List Token). l ++ tokens (drop (at + size) pattern)) (map_last old b ∙ ap (λ (u : Token). map (λ text. token_at text.now) old ++ u ∷ []) t)
    ∙ append_assoc (map (λ text. token_at text.now) old) (token_at (drop at pattern) ∷ []) (tokens (drop (at + size) pattern))
    ∙ ap (λ (l : List Token). map (λ text. token_at text.now) old ++ l) (sym next)
    ∙ k

same_star : (t : Token) → Forms.is_star t ≡ is_star t
same_star star = refl
same_star one = refl
same_star (bracket b) = refl
same_star (literal b) = refl

pub star_begins : (text : List ℕ) → get_or text 0 0 ≡ 42 → true ≡ Forms.is_star (token_at text)
star_begins text e = ap Forms.is_star (sym (star_at text e))

pub no_star_begins : (text : List ℕ) → (get_or text 0 0 ≡ 42 → ⊥) → false ≡ Forms.is_star (token_at text)
no_star_begins text n = sym (same_star (token_at text) ∙ not_star text n)

pub star_admits : (text : List ℕ) (b : ℕ) → get_or text 0 0 ≡ 42 → false ≡ admits_byte (token_at text) b
star_admits text b e = ap (λ (t : Token). admits_byte t b) (sym (star_at text e))

pub empty_token : (text : List ℕ) → text ≡ [] → token_at text ≡ literal 0
unfolding token_at
empty_token [] e = refl
empty_token (x ∷ text) e = cc

none_behind : (l : List Token) → l ≡ l ++ []
none_behind [] = refl
none_behind (x ∷ l) = ap (λ r. x ∷ r) (none_behind l)

pub cut_end : (pattern : List ℕ) (texts : List (Bor (List ℕ))) (at : ℕ) → length pattern ≤ at → map (λ text. token_at text.now) texts ++ tokens (drop at pattern) ≡ tokens pattern → map (λ text. token_at text.now) texts ≡ tokens pattern
cut_end pattern texts at h k =
    none_behind (map (λ text. token_at text.now) texts) ∙ ap (λ (l : List Token). map (λ text. token_at text.now) texts ++ l) (sym (no_tokens_at pattern at h)) ∙ k

pub empty_star : (text : List ℕ) → length text ≡ 0 → false ≡ Forms.is_star (token_at text)
unfolding token_at
empty_star [] e = refl
empty_star (x ∷ text) e = absurd (omega arith)

pub empty_admits : (text : List ℕ) (b : ℕ) → length text ≡ 0 → nat_eq b 0 ≡ admits_byte (token_at text) b
unfolding token_at
empty_admits [] b e = refl
empty_admits (x ∷ text) b e = absurd (omega arith)

take_next : (ts : List Token) (at left : ℕ) (t : Token) (more : List Token) → left ≡ suc at → ts ≡ t ∷ more → Forms.text_size (take left ts) ≡ token_size t + Forms.text_size (take at more)
take_next ts at left t more e k = rw (e, k) refl

-- a step of the walk over the first tokens
pub size_step : (pattern : List ℕ) (at left size rest whole : ℕ) (text : List ℕ) → left ≡ suc rest → text ≡ drop at pattern → 0 < length (drop at pattern) → size ≡ token_size (token_at text)
    → at + Forms.text_size (take left (tokens (drop at pattern))) ≡ whole → (at + size) + Forms.text_size (take rest (tokens (drop (at + size) pattern))) ≡ whole
size_step pattern at left size rest whole text l e h s k =
    let z : size ≡ token_size (token_at (drop at pattern)) = s ∙ ap (λ (d : List ℕ). token_size (token_at d)) e in
    let next : tokens (drop at pattern) ≡ token_at (drop at pattern) ∷ tokens (drop (at + size) pattern) =
    first_token (drop at pattern) h ∙ ap (λ (r : List ℕ). token_at (drop at pattern) ∷ tokens r) (ap (λ (i : ℕ). drop i (drop at pattern)) (sym z) ∙ drop_drop at size pattern) in
    let sum : Forms.text_size (take left (tokens (drop at pattern))) ≡ token_size (token_at (drop at pattern)) + Forms.text_size (take rest (tokens (drop (at + size) pattern))) =
    take_next (tokens (drop at pattern)) rest left (token_at (drop at pattern)) (tokens (drop (at + size) pattern)) l next in
    omega (arith, z, sum, k)

none_taken : (ts : List Token) → ts ≡ [] → (left : ℕ) → Forms.text_size (take left ts) ≡ 0
none_taken [] e zero = refl
none_taken [] e (suc left) = refl
none_taken (t ∷ ts) e left = cc

pub size_at_end : (pattern : List ℕ) (at left whole : ℕ) → length pattern ≤ at → at + Forms.text_size (take left (tokens (drop at pattern))) ≡ whole → at ≡ whole
size_at_end pattern at left whole h k = let none : Forms.text_size (take left (tokens (drop at pattern))) ≡ 0 = none_taken (tokens (drop at pattern)) (no_tokens_at pattern at h) left in omega (arith, none, k)
