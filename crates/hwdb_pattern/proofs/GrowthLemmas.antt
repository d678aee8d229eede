-- What is known of a path is known of all that begin with it.
use Rattle.std.proofs.Common.{◌≡◌, ◌∙◌, ap, sym, refl, subst, ℕ, zero, suc, ◌-◌, ◌≤◌, Bool, true, false, List, [], ◌∷◌, ◌++◌, take, length, cond, arith, append_assoc}
use Rattle.std.proofs.lemmas.List.{length-append}
use Rattle.hwdb_spec.specs.Patterns.{Token, token_at, token_size, tokens_from, tokens, Matches}
use Rattle.hwdb_spec.specs.Tree.{is_open, IsLive}
use Rattle.hwdb_pattern.proofs.ClosedPartLemmas.{closed_tokens_from, closed_tokens, closed_cut, token_longer}

-- tokens that another list begins with
pub record Begins (front whole : List Token) : Type 0 where
  pub rest : List Token
  pub is : whole ≡ front ++ rest

closed_case : (t : Token) (c : Bool) (front more : List Token) → is_open t ≡ c → (is_open t ≡ false → Begins front more) → (whole : List Token)
    → (is_open t ≡ false → whole ≡ t ∷ more) → Begins (cond c [] (t ∷ front)) whole
closed_case t true front more e b whole w = record { rest = whole; is = refl }
closed_case t false front more e b whole w =
    let r : Begins front more = b e in record { rest = r.rest; is = w e ∙ ap (λ l. t ∷ l) r.is }

closed_unless : (t : Token) (x : List Token) → is_open t ≡ false → cond (is_open t) [] x ≡ x
closed_unless t x h = rw h refl

closed_grows : (skip : ℕ) (path more : List ℕ) → Begins (closed_tokens_from skip path) (closed_tokens_from skip (path ++ more))
unfolding closed_tokens_from
closed_grows skip [] more = record { rest = closed_tokens_from skip more; is = refl }
closed_grows (suc skip) (first ∷ rest) more = closed_grows skip rest more
closed_grows zero (first ∷ rest) more =
    let again : (k : ℕ) → Begins (closed_tokens_from k rest) (closed_tokens_from k (rest ++ more)) = λ k. closed_grows k rest more in
    let t = token_at (first ∷ rest) in
    closed_case t (is_open t) (closed_tokens_from (token_size t - 1) rest) (closed_tokens_from (token_size t - 1) (rest ++ more)) refl (λ h. again (token_size t - 1)) _
    (λ h. let same : token_at (first ∷ rest ++ more) ≡ token_at (first ∷ rest) = token_longer first rest more h in
    ap (λ u. cond (is_open u) [] (u ∷ closed_tokens_from (token_size u - 1) (rest ++ more))) same ∙ closed_unless t _ h)

tokens_grow : (skip : ℕ) (path more : List ℕ) → Begins (closed_tokens_from skip path) (tokens_from skip (path ++ more))
unfolding closed_tokens_from tokens_from
tokens_grow skip [] more = record { rest = tokens_from skip more; is = refl }
tokens_grow (suc skip) (first ∷ rest) more = tokens_grow skip rest more
tokens_grow zero (first ∷ rest) more =
    let again : (k : ℕ) → Begins (closed_tokens_from k rest) (tokens_from k (rest ++ more)) = λ k. tokens_grow k rest more in
    let t = token_at (first ∷ rest) in
    closed_case t (is_open t) (closed_tokens_from (token_size t - 1) rest) (tokens_from (token_size t - 1) (rest ++ more)) refl (λ h. again (token_size t - 1)) _
    (λ h. let same : token_at (first ∷ rest ++ more) ≡ token_at (first ∷ rest) = token_longer first rest more h in
    ap (λ u. u ∷ tokens_from (token_size u - 1) (rest ++ more)) same)

-- a device that tokens match, cut after the first ones
pub record Front (front : List Token) (device : List ℕ) : Type 0 where
  pub piece : List ℕ
  pub rest : List ℕ
  pub whole : device ≡ piece ++ rest
  pub met : Matches front piece

pub front_of : (front more : List Token) (device : List ℕ) → Matches (front ++ more) device → Front front device
front_of [] more device m = record { piece = []; rest = device; whole = refl; met = refl }
front_of (t ∷ front) more device m =
    let r : Front front m.1 = front_of front more m.1 m.4 in
    record {
      piece = m.0 ++ r.piece;
      rest = r.rest;
      whole = m.2 ∙ ap (λ l. m.0 ++ l) r.whole ∙ sym (append_assoc m.0 r.piece r.rest);
      met = (m.0, r.piece, refl, m.3, r.met);
    }

take_front : (piece rest : List ℕ) → take (length piece) (piece ++ rest) ≡ piece
take_front [] rest = refl
take_front (b ∷ piece) rest = ap (λ l. b ∷ l) (take_front piece rest)

pub take_least : (n : ℕ) (d piece rest : List ℕ) → take n d ≡ piece ++ rest → (length piece ≤ length d) × (take (length piece) d ≡ piece)
take_least zero d [] rest e = (omega arith, refl)
take_least zero d (b ∷ piece) rest e = cc
take_least (suc n) [] [] rest e = (omega arith, refl)
take_least (suc n) [] (b ∷ piece) rest e = cc
take_least (suc n) (c ∷ d) [] rest e = (omega arith, refl)
take_least (suc n) (c ∷ d) (b ∷ piece) rest e =
    let tail : take n d ≡ piece ++ rest = cc in
    let head : c ≡ b = cc in
    let r : (length piece ≤ length d) × (take (length piece) d ≡ piece) = take_least n d piece rest tail in
    let below = r.0 in
    (omega arith, let f : take (length piece) d ≡ piece = r.1 in cc)

-- no path that begins with a dead one is live
pub live_front : (path more device : List ℕ) → IsLive (path ++ more) device → IsLive path device
live_front path more device live =
    let b : Begins (closed_tokens path) (closed_tokens (path ++ more)) = closed_grows 0 path more in
    let w : Matches (closed_tokens (path ++ more)) (take live.0 device) = subst (λ ts. Matches ts (take live.0 device)) (closed_cut (path ++ more)) live.2 in
    let m : Matches (closed_tokens path ++ b.rest) (take live.0 device) = subst (λ ts. Matches ts (take live.0 device)) b.is w in
    let f : Front (closed_tokens path) (take live.0 device) = front_of (closed_tokens path) b.rest (take live.0 device) m in
    let cut = take_least live.0 device f.piece f.rest f.whole in
    let met : Matches (closed_tokens path) (take (length f.piece) device) = subst (λ d. Matches (closed_tokens path) d) (sym cut.1) f.met in
    (length f.piece, cut.0, subst (λ ts. Matches ts (take (length f.piece) device)) (sym (closed_cut path)) met)

-- no pattern that begins with a dead path matches
pub match_front : (path more device : List ℕ) → Matches (tokens (path ++ more)) device → IsLive path device
match_front path more device matched =
    let b : Begins (closed_tokens path) (tokens (path ++ more)) = tokens_grow 0 path more in
    let m : Matches (closed_tokens path ++ b.rest) device = subst (λ ts. Matches ts device) b.is matched in
    let f : Front (closed_tokens path) device = front_of (closed_tokens path) b.rest device m in
    let n : length f.piece ≤ length device = let e = ap length f.whole in omega (arith, e, length-append f.piece f.rest) in
    let met : Matches (closed_tokens path) (take (length f.piece) device) =
    subst (λ d. Matches (closed_tokens path) d) (sym (ap (take (length f.piece)) f.whole ∙ take_front f.piece f.rest)) f.met in
    (length f.piece, n, subst (λ ts. Matches ts (take (length f.piece) device)) (sym (closed_cut path)) met)
