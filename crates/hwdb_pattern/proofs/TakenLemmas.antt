-- A path that grows by bytes which are tokens for themselves.
use Rattle.std.proofs.Common.{◌≡◌, ℕ, suc, ◌+◌, ◌-◌, ◌<◌, ◌≤◌, true, List, [], ◌∷◌, ◌++◌, drop, length, get_or, refl, ap, ◌∙◌, sym, subst, cond, arith, eq-eqb, if◌then◌else◌}
use Rattle.std.specs.Prelude.{map}
use Rattle.std.proofs.lemmas.List.{append-nil, drop_all, length-drop, get_or-drop}
use Rattle.hwdb_spec.specs.Patterns.{Token, literal, token_at, token_size, tokens}
use Rattle.hwdb_spec.specs.Tree.{closed_part, is_open, IsLive}
use Rattle.hwdb_pattern.specs.Views.{takes, NoneTakes, open_from, open_part, Reached, StandsFor}
use Rattle.hwdb_pattern.specs.Internal.Prefixes.{stepped, Follows, Along}
use Rattle.hwdb_pattern.proofs.TokenLemmas.{not_star, star_at, token_byte}
use Rattle.hwdb_pattern.proofs.ClosedPartLemmas.{ClosedTo, closed_start, closed_step, closed_ends, other_token, part_and_rest}
use Rattle.hwdb_pattern.proofs.PathLemmas.{alive_has, along_end, along_first, along_none, along_step, fed, follows_none, follows_one, no_bytes, stepped_none, takes_by}

-- the closed part of a byte that isn't `[` is the byte
pub closed_byte : (byte : ℕ) → (byte ≡ 91 → ⊥) → (byte ∷ [] ≡ closed_part (byte ∷ [])) × ([] ≡ open_part (byte ∷ []))
closed_byte byte bracket =
    let step : ClosedTo (byte ∷ []) 1 =
    closed_step (byte ∷ []) (byte ∷ []) 0 1 refl (omega arith) (other_token (byte ∷ []) (omega arith) bracket) (closed_start (byte ∷ [])) in
    closed_ends (byte ∷ []) 1 (omega arith) step

-- after a byte that isn't the device's next one no length is left
lost_byte : (byte : ℕ) (device before : List ℕ) → (byte ≡ 42 → ⊥) → (byte ≡ 63 → ⊥) → (byte ≡ 91 → ⊥)
    → NoneTakes (literal byte) device before → Follows (tokens (byte ∷ [])) device before []
lost_byte byte device before star one bracket none =
    let own : token_at (byte ∷ []) ≡ literal byte = token_byte (byte ∷ []) (omega arith) star one bracket in
    let lost : stepped (literal byte) device before ≡ [] = stepped_none (literal byte) device before none in
    along_first device before [] [] (byte ∷ []) [] 1 refl (omega arith) (ap token_size (sym own))
    (follows_one (token_at (byte ∷ [])) device before [] (not_star (byte ∷ []) star) (sym (ap (λ t. stepped t device before) own ∙ lost)))
    (along_none device [] [] refl)

pub not_taken : (r : Reached) (path device before : List ℕ) (byte : ℕ) → (byte ≡ 42 → ⊥) → (byte ≡ 63 → ⊥) → (byte ≡ 91 → ⊥)
    → device ≡ r.device → before ≡ r.lengths → length r.kept ≡ 0 → NoneTakes (literal byte) device before
    → StandsFor r path → IsLive (path ++ byte ∷ []) r.device → ⊥
not_taken r path device before byte star one bracket d b k none stands live =
    let closed : (byte ∷ [] ≡ closed_part (byte ∷ [])) × ([] ≡ open_part (byte ∷ [])) = closed_byte byte bracket in
    let next : StandsFor (record { device = device; lengths = []; kept = [] }) (path ++ byte ∷ []) =
    fed r device before [] (byte ∷ []) (byte ∷ []) [] path (byte ∷ []) d b (ap (λ l. l ++ byte ∷ []) (sym (no_bytes r.kept k)))
    closed.0 closed.1 (lost_byte byte device before star one bracket none) stands in
    absurd (omega (arith, alive_has (record { device = device; lengths = []; kept = [] }) (path ++ byte ∷ []) next (subst (IsLive (path ++ byte ∷ [])) (sym d) live)))

-- one more byte that is a token for itself and the device's next one after a lone length
stepped_lone : (t : Token) (device : List ℕ) (m : ℕ) → takes t device m ≡ true → stepped t device (m ∷ []) ≡ (m + 1) ∷ []
stepped_lone t device m e = ap (λ c. map (λ n. n + 1) (cond c (m ∷ []) [])) e

follows_byte : (text device : List ℕ) (m : ℕ) → 0 < length text → (get_or text 0 0 ≡ 42 → ⊥) → (get_or text 0 0 ≡ 63 → ⊥) → (get_or text 0 0 ≡ 91 → ⊥)
    → m < length device → get_or device m 0 ≡ get_or text 0 0 → Follows (token_at text ∷ []) device (m ∷ []) ((m + 1) ∷ [])
follows_byte text device m some star one bracket h e =
    let own : token_at text ≡ literal (get_or text 0 0) = token_byte text some star one bracket in
    let taken : takes (literal (get_or text 0 0)) device m ≡ true = takes_by (literal (get_or text 0 0)) device m h (eq-eqb (get_or device m 0) (get_or text 0 0) e) in
    follows_one (token_at text) device (m ∷ []) ((m + 1) ∷ []) (not_star text star) (sym (ap (λ t. stepped t device (m ∷ [])) own ∙ stepped_lone (literal (get_or text 0 0)) device m taken))

-- the bytes before a place are tokens for themselves, and are the device's next ones
pub record Shared (device text : List ℕ) (n at : ℕ) : Type 0 where
  pub closed : ClosedTo text at
  pub along : Along device (n ∷ []) ((n + at) ∷ []) text at

pub shared_start : (device text : List ℕ) (n : ℕ) → Shared device text n 0
shared_start device text n = record {
  closed = closed_start text;
  along = record { done = []; cut = refl; follows = subst (λ m. Follows [] device (n ∷ []) (m ∷ [])) (omega arith) (follows_none device (n ∷ [])) };
}

pub shared_more : (device text : List ℕ) (n at : ℕ) → at < length text → n + at < length device → (get_or text at 0 ≡ 42 → ⊥) → (get_or text at 0 ≡ 63 → ⊥)
    → (get_or text at 0 ≡ 91 → ⊥) → get_or text at 0 ≡ get_or device (n + at) 0 → Shared device text n at → Shared device text n (at + 1)
shared_more device text n at h k star one bracket e s =
    let rest : List ℕ = drop at text in
    let some : 0 < length rest = omega (arith, h, length-drop at text) in
    let first : get_or rest 0 0 ≡ get_or text at 0 = get_or-drop at text 0 0 ∙ ap (λ i. get_or text i 0) (omega arith) in
    let step = other_token rest some (λ f. bracket (sym first ∙ f)) in
    record {
      closed = closed_step text rest at 1 refl h step s.closed;
      along = along_step device (n ∷ []) ((n + at) ∷ []) ((n + (at + 1)) ∷ []) text rest at 1 refl h step.1
          (subst (λ m. Follows (token_at rest ∷ []) device ((n + at) ∷ []) (m ∷ [])) (omega arith)
          (follows_byte rest device (n + at) some (λ f. star (sym first ∙ f)) (λ f. one (sym first ∙ f)) (λ f. bracket (sym first ∙ f)) k (sym e ∙ sym first)))
          s.along;
    }

pub shared_closed : (device text : List ℕ) (n at : ℕ) → length text ≤ at → Shared device text n at → open_part text ≡ []
shared_closed device text n at h s = sym (closed_ends text at h s.closed).1 ∙ drop_all at text h

pub shared_follows : (device text : List ℕ) (n at : ℕ) → length text ≤ at → Shared device text n at → Follows (tokens text) device (n ∷ []) ((n + at) ∷ [])
shared_follows device text n at h s = along_end device (n ∷ []) ((n + at) ∷ []) text at h s.along

-- a path that grows by a text without an open part
pub fed_closed : (r : Reached) (device after path piece kept : List ℕ) → device ≡ r.device → r.kept ≡ [] → kept ≡ [] → open_part piece ≡ []
    → Follows (tokens piece) r.device r.lengths after → StandsFor r path → StandsFor (record { device = device; lengths = after; kept = kept }) (path ++ piece)
fed_closed r device after path piece kept d k none closed follows stands =
    let whole : piece ≡ closed_part piece = sym (sym (append-nil (closed_part piece)) ∙ ap (λ l. closed_part piece ++ l) (sym closed) ∙ part_and_rest piece) in
    fed r device r.lengths after piece (closed_part piece) kept path piece d refl (ap (λ l. l ++ piece) (sym k)) refl (none ∙ sym closed)
    (subst (λ l. Follows (tokens l) device r.lengths after) whole (subst (λ v. Follows (tokens piece) v r.lengths after) (sym d) follows)) stands

-- no bracket is open in a text of stars alone
pub stars_closed : (text : List ℕ) → ((k : ℕ) → k < length text → get_or text k 0 ≡ 42) → open_part text ≡ []
unfolding open_from
stars_closed [] h = refl
stars_closed (first ∷ rest) h =
    ap (λ t. if is_open t then first ∷ rest else open_from (token_size t - 1) rest) (star_at (first ∷ rest) (h 0 (omega arith)))
    ∙ stars_closed rest (λ k below. h (suc k) (omega (arith, below)))
