-- Bytes of a pattern that are tokens for themselves.
use Rattle.std.proofs.Common.{◌≡◌, ◌∙◌, ap, sym, refl, ℕ, ◌+◌, ◌-◌, ◌<◌, ◌≤◌, Bool, true, false, List, [], ◌∷◌, drop, length, get_or, cond, ◌==◌, ne_eqb, eq-eqb, IsTrue, ◌↔◌}
use Rattle.std.proofs.lemmas.List.{drop_more, drop_all}
use Rattle.hwdb_spec.specs.Patterns.{Token, star, one, literal, Matches, matches, piece_then, byte_then, token_at, token_size, tokens, tokens_from}

plain : (first : ℕ) (x : Token) → (first ≡ 42 → ⊥) → (first ≡ 63 → ⊥) → (first ≡ 91 → ⊥) → cond (first == 42) star (cond (first == 63) one (cond (first == 91) x (literal first))) ≡ literal first
plain first x a b d = rw (ne_eqb first 42 a) (rw (ne_eqb first 63 b) (rw (ne_eqb first 91 d) refl))

-- a byte that is a token for itself, and the tokens after it
record IsPlain (b : ℕ) : Type 0 where
  pub no_star : b ≡ 42 → ⊥
  pub no_mark : b ≡ 63 → ⊥
  pub no_bracket : b ≡ 91 → ⊥

plain_token : (b : ℕ) (rest : List ℕ) → IsPlain b → token_at (b ∷ rest) ≡ literal b
unfolding token_at
plain_token b rest p = plain b _ p.no_star p.no_mark p.no_bracket

plain_tokens : (b : ℕ) (rest : List ℕ) → IsPlain b → tokens (b ∷ rest) ≡ literal b ∷ tokens rest
unfolding tokens_from
plain_tokens b rest p = ap (λ (t : Token). t ∷ tokens_from (token_size t - 1) rest) (plain_token b rest p)

first_matches : (b d : ℕ) (more : List Token) (rest : List ℕ) → matches (literal b ∷ more) (d ∷ rest) ≡ cond (d == b) (matches more rest) false
unfolding matches piece_then byte_then
first_matches b d more rest = refl

none_matches : (b : ℕ) (more : List Token) → matches (literal b ∷ more) [] ≡ false
unfolding matches piece_then byte_then
none_matches b more = refl

at_plain : (pattern device : List ℕ) (i : ℕ) → i < length pattern → IsPlain (get_or pattern i 0) → matches (tokens (drop i pattern)) (drop i device) ≡ matches (literal (get_or pattern i 0) ∷ tokens (drop (i + 1) pattern)) (drop i device)
at_plain pattern device i h p =
    ap (λ (l : List ℕ). matches (tokens l) (drop i device)) (drop_more pattern i 0 h) ∙ ap (λ (l : List Token). matches l (drop i device)) (plain_tokens (get_or pattern i 0) (drop (i + 1) pattern) p)

pub goes_on : (pattern device : List ℕ) (i : ℕ) (whole : Bool) → i < length pattern → i < length device → (get_or pattern i 0 ≡ 42 → ⊥) → (get_or pattern i 0 ≡ 63 → ⊥) → (get_or pattern i 0 ≡ 91 → ⊥) → get_or device i 0 ≡ get_or pattern i 0
    → whole ≡ matches (tokens (drop i pattern)) (drop i device) → whole ≡ matches (tokens (drop (i + 1) pattern)) (drop (i + 1) device)
goes_on pattern device i whole h k a b d same e =
    let p : IsPlain (get_or pattern i 0) = record { no_star = a; no_mark = b; no_bracket = d } in
    let more = tokens (drop (i + 1) pattern) in
    let rest = drop (i + 1) device in
    e ∙ at_plain pattern device i h p ∙ ap (matches (literal (get_or pattern i 0) ∷ more)) (drop_more device i 0 k) ∙ first_matches (get_or pattern i 0) (get_or device i 0) more rest
    ∙ ap (λ (c : Bool). cond c (matches more rest) false) (eq-eqb (get_or device i 0) (get_or pattern i 0) same)

pub other_byte : (pattern device : List ℕ) (i : ℕ) (whole : Bool) → i < length pattern → i < length device → (get_or pattern i 0 ≡ 42 → ⊥) → (get_or pattern i 0 ≡ 63 → ⊥) → (get_or pattern i 0 ≡ 91 → ⊥) → (get_or device i 0 ≡ get_or pattern i 0 → ⊥)
    → whole ≡ matches (tokens (drop i pattern)) (drop i device) → whole ≡ false
other_byte pattern device i whole h k a b d other e =
    let p : IsPlain (get_or pattern i 0) = record { no_star = a; no_mark = b; no_bracket = d } in
    let more = tokens (drop (i + 1) pattern) in
    let rest = drop (i + 1) device in
    e ∙ at_plain pattern device i h p ∙ ap (matches (literal (get_or pattern i 0) ∷ more)) (drop_more device i 0 k) ∙ first_matches (get_or pattern i 0) (get_or device i 0) more rest
    ∙ ap (λ (c : Bool). cond c (matches more rest) false) (ne_eqb (get_or device i 0) (get_or pattern i 0) other)

pub no_byte : (pattern device : List ℕ) (i : ℕ) (whole : Bool) → i < length pattern → length device ≤ i → (get_or pattern i 0 ≡ 42 → ⊥) → (get_or pattern i 0 ≡ 63 → ⊥) → (get_or pattern i 0 ≡ 91 → ⊥)
    → whole ≡ matches (tokens (drop i pattern)) (drop i device) → whole ≡ false
no_byte pattern device i whole h k a b d e =
    let p : IsPlain (get_or pattern i 0) = record { no_star = a; no_mark = b; no_bracket = d } in
    e ∙ at_plain pattern device i h p ∙ ap (matches (literal (get_or pattern i 0) ∷ tokens (drop (i + 1) pattern))) (drop_all i device k) ∙ none_matches (get_or pattern i 0) (tokens (drop (i + 1) pattern))

pub is_hit : (b : Bool) (ts : List Token) (device : List ℕ) → (IsTrue b ↔ Matches ts device) → (IsTrue (matches ts device) ↔ Matches ts device) → b ≡ matches ts device
is_hit true ts device g t = sym (t.1 (g.0 refl))
is_hit false ts device g t = go (matches ts device) (λ e. g.1 (t.0 e))
  where
    go : (c : Bool) → (c ≡ true → false ≡ true) → false ≡ c
    go true h = h refl
    go false h = refl
