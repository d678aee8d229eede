-- The steps of a search for a match.
use Rattle.std.proofs.Common.{◌≡◌, nat_eq, nat_lt, eq-eqb, lt-ltb, None, ℕ, zero, suc, ◌+◌, ◌-◌, ◌<◌, ◌≤◌, Bool, not, IsTrue, true, false, List, [], ◌∷◌, ◌++◌, drop, take, length, get_or, refl, sym, ap, subst, ◌∙◌, inl, inr, arith, eqb-true}
use Rattle.std.proofs.lemmas.Bool.{cases_eq, cases_lt}
use Rattle.std.proofs.lemmas.List.{drop-drop, drop_more, take_more, length-append, length-drop, drop_all, get_or-drop, get_or-take}
use Rattle.hwdb_spec.specs.Patterns.{bracket_at, Token, star, literal, token_at, token_size, tokens, admits_byte, Matches}
use Rattle.hwdb_pattern.proofs.LongerPathLemmas.{none_closes}
use Rattle.hwdb_pattern.specs.Internal.Search.{AreOpen, ArePlain, Reaches, Remains}
use Rattle.hwdb_pattern.specs.Internal.Parts.{token_part}
use Rattle.hwdb_pattern.specs.declared.brackets.Part.{Part}
use Rattle.hwdb_pattern.proofs.TokenLemmas.{first_token, not_star, star_at, no_tokens_at}
use Rattle.hwdb_spec.specs.Forms.{is_star}
use Rattle.hwdb_pattern.specs.Lemmas.Matching.{single, single_admits, single_empty, single_rest, star_absorbs, star_empty, star_more, star_nothing, star_star, star_step}

along : (ts us : List Token) (d e : List ℕ) → ts ≡ us → d ≡ e → Matches ts d → Matches us e
along ts us d e p q m = subst (λ (x : List ℕ). Matches us x) q (subst (λ (x : List Token). Matches x d) p m)

-- the tokens from a place on
pub token_next : (pattern : List ℕ) (at size : ℕ) → at < length pattern → size ≡ token_size (token_at (drop at pattern)) → tokens (drop at pattern) ≡ token_at (drop at pattern) ∷ tokens (drop (at + size) pattern)
token_next pattern at size h e =
    let k : 0 < length (drop at pattern) = omega (arith, length-drop at pattern) in
    first_token (drop at pattern) k
    ∙ ap (λ (r : List ℕ). token_at (drop at pattern) ∷ tokens r)
    (ap (λ (n : ℕ). drop n (drop at pattern)) (sym e) ∙ drop-drop size at pattern)

pub reaches_step : (pattern device : List ℕ) (at met size : ℕ) → at < length pattern → met < length device
    → size ≡ token_size (token_at (drop at pattern)) → is_star (token_at (drop at pattern)) ≡ false
    → IsTrue (admits_byte (token_at (drop at pattern)) (get_or device met 0))
    → Reaches pattern device at met → Reaches pattern device (at + size) (met + 1)
reaches_step pattern device at met size h k e s a r =
    let t : Token = token_at (drop at pattern) in
    let ts : List Token = tokens (drop (at + size) pattern) in
    let x : ℕ = get_or device met 0 in
    let d : List ℕ = drop (met + 1) device in
    let p : tokens (drop at pattern) ≡ t ∷ ts = token_next pattern at size h e in
    let q : drop met device ≡ x ∷ d = drop_more device met 0 k in
    record {
      forth = λ m. single_rest t ts x d s (along _ _ _ _ p q (r.forth m));
      back = λ m. r.back (along _ _ _ _ (sym p) (sym q) (single t ts x d a m));
      later = λ m. star_absorbs t ts x d s (along _ _ _ _ (ap (λ us. star ∷ us) p) q (r.later m));
    }

-- if the next token doesn't take the next byte, nothing matches
pub reaches_refused : (pattern device : List ℕ) (at met : ℕ) → at < length pattern → met < length device
    → is_star (token_at (drop at pattern)) ≡ false
    → (IsTrue (admits_byte (token_at (drop at pattern)) (get_or device met 0)) → ⊥)
    → Reaches pattern device at met → Matches (tokens pattern) device → ⊥
reaches_refused pattern device at met h k s n r m =
    let p : tokens (drop at pattern) ≡ token_at (drop at pattern) ∷ tokens (drop (at + token_size (token_at (drop at pattern))) pattern) = token_next pattern at _ h refl in
    let q : drop met device ≡ get_or device met 0 ∷ drop (met + 1) device = drop_more device met 0 k in
    n (single_admits _ _ _ _ s (along _ _ _ _ p q (r.forth m)))

-- nor if no byte is left for it
pub reaches_short : (pattern device : List ℕ) (at met : ℕ) → at < length pattern → length device ≤ met
    → is_star (token_at (drop at pattern)) ≡ false
    → Reaches pattern device at met → Matches (tokens pattern) device → ⊥
reaches_short pattern device at met h k s r m =
    let p : tokens (drop at pattern) ≡ token_at (drop at pattern) ∷ tokens (drop (at + token_size (token_at (drop at pattern))) pattern) = token_next pattern at _ h refl in
    single_empty _ _ s (along _ _ _ _ p (drop_all met device k) (r.forth m))

pub not_star_at : (pattern : List ℕ) (at : ℕ) → (get_or pattern at 0 ≡ 42 → ⊥) → is_star (token_at (drop at pattern)) ≡ false
not_star_at pattern at n =
    let e : get_or (drop at pattern) 0 0 ≡ get_or pattern at 0 = get_or-drop at pattern 0 0 ∙ ap (λ (k : ℕ). get_or pattern k 0) (omega arith) in
    not_star (drop at pattern) (λ h. n (sym e ∙ h))

-- one more token, by what the code read of it
pub run_step : (pattern device text : List ℕ) (at met : ℕ) (p : Part) → text ≡ drop at pattern → at < length pattern → met < length device
    → p ≡ token_part (get_or device met 0) (token_at text) → (get_or pattern at 0 ≡ 42 → ⊥)
    → not p.admits ≡ false
    → Reaches pattern device at met → Reaches pattern device (at + p.size) (met + 1)
run_step pattern device text at met p t h k e' n a r =
    let e : p ≡ token_part (get_or device met 0) (token_at (drop at pattern)) = e' ∙ ap (λ (r : List ℕ). token_part (get_or device met 0) (token_at r)) t in
    let s : p.size ≡ token_size (token_at (drop at pattern)) = ap (λ (q : Part). q.size) e in
    let y : p.admits ≡ admits_byte (token_at (drop at pattern)) (get_or device met 0) = ap (λ (q : Part). q.admits) e in
    reaches_step pattern device at met p.size h k s (not_star_at pattern at n) (is_admitted p.admits _ y a) r
  where
    is_admitted : (a b : Bool) → a ≡ b → not a ≡ false → IsTrue b
    is_admitted true b e n = sym e
    is_admitted false b e n = cc

pub run_refused : (pattern device text : List ℕ) (at met : ℕ) (p : Part) → text ≡ drop at pattern → at < length pattern → met < length device
    → p ≡ token_part (get_or device met 0) (token_at text) → (get_or pattern at 0 ≡ 42 → ⊥)
    → not p.admits ≡ true
    → Reaches pattern device at met → Matches (tokens pattern) device → ⊥
run_refused pattern device text at met p t h k e' n a r =
    let e : p ≡ token_part (get_or device met 0) (token_at (drop at pattern)) = e' ∙ ap (λ (r : List ℕ). token_part (get_or device met 0) (token_at r)) t in
    let y : p.admits ≡ admits_byte (token_at (drop at pattern)) (get_or device met 0) = ap (λ (q : Part). q.admits) e in
    reaches_refused pattern device at met h k (not_star_at pattern at n) (is_refused p.admits _ y a) r
  where
    is_refused : (a b : Bool) → a ≡ b → not a ≡ true → IsTrue b → ⊥
    is_refused true b e n t = cc
    is_refused false b e n t = cc

-- a star's place
pub star_next : (pattern : List ℕ) (at : ℕ) → at < length pattern → get_or pattern at 0 ≡ 42 → tokens (drop at pattern) ≡ star ∷ tokens (drop (at + 1) pattern)
star_next pattern at h e =
    let s : token_at (drop at pattern) ≡ star = star_at (drop at pattern) (get_or-drop at pattern 0 0 ∙ ap (λ (k : ℕ). get_or pattern k 0) (omega arith) ∙ e) in
    token_next pattern at 1 h (sym (ap token_size s)) ∙ ap (λ (t : Token). t ∷ tokens (drop (at + 1) pattern)) s

pub remains_first : (pattern device : List ℕ) (at met : ℕ) → at < length pattern → met ≤ length device → get_or pattern at 0 ≡ 42
    → Reaches pattern device at met → Remains pattern device (at + 1) met
remains_first pattern device at met h k e r =
    let p : tokens (drop at pattern) ≡ star ∷ tokens (drop (at + 1) pattern) = star_next pattern at h e in
    record {
      forth = λ m. (k, along _ _ _ _ p refl (r.forth m));
      back = λ _ m. r.back (along _ _ _ _ (sym p) refl m);
    }

pub remains_star : (pattern device text left : List ℕ) (at met further used : ℕ)
    → text ≡ drop at pattern → left ≡ drop met device
    → at + further < length pattern → met ≤ length device → used ≤ length left → get_or text further 0 ≡ 42
    → Reaches text left further used → Remains pattern device at met
    → Remains pattern device (at + (further + 1)) (met + used)
remains_star pattern device text left at met further used t l h k u e s r =
    let q : drop used left ≡ drop (met + used) device = ap (λ (d : List ℕ). drop used d) l ∙ drop-drop used met device in
    let f : further < length text = omega (arith, ap length t, length-drop at pattern) in
    let p : tokens (drop further text) ≡ star ∷ tokens (drop (at + (further + 1)) pattern) =
    star_next text further f e ∙ ap (λ (d : List ℕ). star ∷ tokens d) (ap (λ (d : List ℕ). drop (further + 1) d) t ∙ drop-drop (further + 1) at pattern) in
    let b : met + used ≤ length device = omega (arith, ap length l, length-drop met device) in
    record {
      forth = λ m. (
        b,
        star_star _ _ (along _ _ _ _ (ap (λ (us : List Token). star ∷ us) p) q
            (s.later (along _ _ _ _ (ap (λ (d : List ℕ). star ∷ tokens d) (sym t)) (sym l) (r.forth m).1))),
      );
      back = λ _ m. r.back k (star_nothing _ _ (along _ _ _ _ (ap tokens t) l (s.back (along _ _ _ _ (sym p) (sym q) m))));
    }

pub remains_more : (pattern device text left : List ℕ) (at met : ℕ)
    → text ≡ drop at pattern → left ≡ drop met device → met ≤ length device
    → (Matches (tokens text) left → ⊥)
    → Remains pattern device at met → Remains pattern device at (met + 1)
remains_more pattern device text left at met t l k n r = elim (cases_eq met (length device)) [
  | inl e ↦
      let ts : List Token = tokens (drop at pattern) in
      let z : drop met device ≡ [] = drop_all met device (omega arith) in
      record {
        forth = λ m. absurd (not_here (along ts ts [] (drop met device) refl (sym z)
            (star_empty ts (along (star ∷ ts) (star ∷ ts) (drop met device) [] refl z (r.forth m).1))));
        back = λ b m. absurd (omega arith);
      }
  | inr e ↦
      let ts : List Token = tokens (drop at pattern) in
      let x : ℕ = get_or device met 0 in
      let d : List ℕ = drop (met + 1) device in
      let h : met < length device = omega arith in
      let z : drop met device ≡ x ∷ d = drop_more device met 0 h in
      record {
        forth = λ m. (
          omega arith,
          elim (star_step ts x d (along (star ∷ ts) (star ∷ ts) (drop met device) (x ∷ d) refl z (r.forth m).1)) [
            | inl here ↦ absurd (not_here (along ts ts (x ∷ d) (drop met device) refl (sym z) here))
            | inr later ↦ later
          ],
        );
        back = λ _ m. r.back k (along (star ∷ ts) (star ∷ ts) (x ∷ d) (drop met device) refl (sym z) (star_more ts x d m));
      }
]
  where
    not_here : Matches (tokens (drop at pattern)) (drop met device) → ⊥
    not_here m = n (along (tokens (drop at pattern)) (tokens text) (drop met device) left (ap tokens (sym t)) (sym l) m)

-- the tokens up to the pattern's end match what they took, and no more
pub reaches_end : (pattern device : List ℕ) (at met : ℕ) → at ≡ length pattern → met ≡ length device → Reaches pattern device at met → Matches (tokens pattern) device
reaches_end pattern device at met e f r =
    r.back (along _ _ _ _ (sym (no_tokens_at pattern at (omega arith))) refl (drop_all met device (omega arith)))

pub reaches_past : (pattern device : List ℕ) (at met : ℕ) → at ≡ length pattern → met ≤ length device → (met ≡ length device → ⊥) → Reaches pattern device at met → Matches (tokens pattern) device → ⊥
reaches_past pattern device at met e h n r m =
    let z : drop met device ≡ [] = along _ _ _ _ (no_tokens_at pattern at (omega arith)) refl (r.forth m) in
    n (omega (arith, ap length z, length-drop met device))

pub reaches_past_test : (pattern device : List ℕ) (at met : ℕ) → at ≡ length pattern → met ≤ length device → Reaches pattern device at met → Matches (tokens pattern) device → IsTrue (nat_eq met (length device))
reaches_past_test pattern device at met e h r m = elim (cases_eq met (length device)) [
  | inl same ↦ eq-eqb met (length device) same
  | inr other ↦ absurd (reaches_past pattern device at met e h other r m)
]

pub remains_end : (pattern device text left : List ℕ) (at met : ℕ)
    → text ≡ drop at pattern → left ≡ drop met device → met ≤ length device
    → Matches (tokens text) left → Remains pattern device at met → Matches (tokens pattern) device
remains_end pattern device text left at met t l k m r =
    r.back k (star_nothing _ _ (along (tokens text) (tokens (drop at pattern)) left (drop met device) (ap tokens t) l m))

-- the tokens before a place take one byte each
pub record Counts (pattern : List ℕ) (at n : ℕ) : Type 0 where
  pub each : (d : List ℕ) → Matches (tokens pattern) d → (e : List ℕ) × (length d ≡ n + length e) × Matches (tokens (drop at pattern)) e

pub counts_none : (pattern : List ℕ) → Counts pattern 0 0
counts_none pattern = record { each = λ d m. (d, omega arith, m) }

single_length : (t : Token) (ts : List Token) (d : List ℕ) → is_star t ≡ false → Matches (t ∷ ts) d → (e : List ℕ) × (length d ≡ 1 + length e) × Matches ts e
single_length t ts [] s m = absurd (single_empty t ts s m)
single_length t ts (x ∷ d) s m = (d, omega arith, single_rest t ts x d s m)

pub counts_step : (pattern text : List ℕ) (at n : ℕ) (p : Part) → text ≡ drop at pattern → at < length pattern
    → p ≡ token_part 0 (token_at text) → (get_or pattern at 0 ≡ 42 → ⊥) → Counts pattern at n → Counts pattern (at + p.size) (n + 1)
counts_step pattern text at n p t h e other c =
    let z : p.size ≡ token_size (token_at (drop at pattern)) = ap (λ (q : Part). q.size) e ∙ ap (λ (l : List ℕ). token_size (token_at l)) t in
    record {
      each = λ d m.
          let before = c.each d m in
          let after = single_length (token_at (drop at pattern)) (tokens (drop (at + p.size) pattern)) before.0 (not_star_at pattern at other)
          (along _ _ _ _ (token_next pattern at p.size h z) refl before.2) in
          (after.0, omega (arith, before.1, after.1), after.2);
    }

pub counts_end : (pattern : List ℕ) (at n : ℕ) → length pattern ≤ at → Counts pattern at n → (d : List ℕ) → Matches (tokens pattern) d → length d ≡ n
counts_end pattern at n h c d m =
    let left = c.each d m in
    let none : left.0 ≡ [] = along _ _ _ _ (no_tokens_at pattern at h) refl left.2 in
    omega (arith, left.1, ap length none)

-- a later place from which alone the device's end is reached
star_before : (ts : List Token) (n : ℕ) (d : List ℕ) → Matches (star ∷ ts) (drop n d) → Matches (star ∷ ts) d
star_before ts zero d m = m
star_before ts (suc n) [] m = m
star_before ts (suc n) (x ∷ d) m = star_more ts x d (star_before ts n d m)

ends_alike : (a b : List ℕ) (n : ℕ) → n ≡ length a → drop n (a ++ b) ≡ b
ends_alike a b n e = ap (λ k. drop k (a ++ b)) e ∙ go a
  where
    go : (a : List ℕ) → drop (length a) (a ++ b) ≡ b
    go [] = refl
    go (x ∷ a) = go a

pub remains_later : (pattern device text : List ℕ) (at met later : ℕ) → text ≡ drop at pattern → met ≤ later → later ≤ length device
    → (met < later → (d : List ℕ) → Matches (tokens text) d → later + length d ≡ length device) → Remains pattern device at met → Remains pattern device at later
remains_later pattern device text at met later t h k last r = elim (cases_lt met later) [
  | inr same ↦ subst (Remains pattern device at) (omega arith) r
  | inl below ↦
      let ts : List Token = tokens (drop at pattern) in
      record {
        forth = λ m.
            let s = (r.forth m).1 in
            let long : later + length s.1 ≡ length device = last below s.1 (along _ _ _ _ (ap tokens (sym t)) refl s.4) in
            let cut : drop (later - met) (drop met device) ≡ s.1 =
            ap (drop (later - met)) s.2 ∙ ends_alike s.0 s.1 (later - met) (omega (arith, long, ap length s.2, length-append s.0 s.1, length-drop met device)) in
            let here : drop later device ≡ s.1 = sym (drop-drop (later - met) met device ∙ ap (λ n. drop n device) (omega arith)) ∙ cut in
            (k, star_nothing ts (drop later device) (along _ _ _ _ refl (sym here) s.4));
        back = λ _ m. r.back (omega arith)
            (star_before ts (later - met) (drop met device)
            (along (star ∷ ts) (star ∷ ts) _ _ refl (sym (drop-drop (later - met) met device ∙ ap (λ n. drop n device) (omega arith))) m));
      }
]

-- if no `]` comes from a place on, no bracket is closed there
get_behind : (pattern text : List ℕ) (at k : ℕ) → text ≡ drop at pattern → get_or text k 0 ≡ get_or pattern (at + k) 0
get_behind pattern text at k t = ap (λ (l : List ℕ). get_or l k 0) t ∙ get_or-drop at pattern k 0 ∙ ap (λ (n : ℕ). get_or pattern n 0) (omega arith)

pub no_bracket_at : (pattern text : List ℕ) (at close : ℕ) → text ≡ drop at pattern → ((k : ℕ) → close ≤ k → get_or pattern k 0 ≡ 93 → ⊥)
    → nat_lt at close ≡ false → bracket_at text ≡ None
no_bracket_at pattern text at close t n e = elim (cases_lt at close) [
  | inl below ↦ let w : true ≡ false = sym (lt-ltb at close below) ∙ e in cc
  | inr past ↦ none_closes text (λ k h. n (at + k) (omega arith) (sym (get_behind pattern text at k t) ∙ h))
]

pub none_behind : (pattern : List ℕ) (at close : ℕ) → close ≤ at → ((k : ℕ) → close ≤ k → get_or pattern k 0 ≡ 93 → ⊥) → bracket_at (drop at pattern) ≡ None
none_behind pattern at close le n =
    none_closes (drop at pattern) (λ k h. n (at + k) (omega arith) (sym (get_behind pattern (drop at pattern) at k refl) ∙ h))

-- the table from a place on is that of the pattern from there
pub open_behind : (pattern : List ℕ) (opens : List Bool) (at : ℕ) → AreOpen pattern opens → AreOpen (drop at pattern) (drop at opens)
open_behind pattern opens at h k lt e =
    ap bracket_at (drop-drop k at pattern)
    ∙ h (at + k) (omega (arith, length-drop at opens, lt)) (sym (get_or-drop at opens k false) ∙ e)

-- the device begins with the pattern's first bytes, so many of them, and what comes after both matches
pub record Front (pattern device : List ℕ) (n : ℕ) : Type 0 where
  pub size : n ≤ length device
  pub same : take n device ≡ take n pattern
  pub rest : Matches (tokens (drop n pattern)) (drop n device)

front_step : (pattern device : List ℕ) (n : ℕ) → n < length pattern → token_at (drop n pattern) ≡ literal (get_or pattern n 0) → Front pattern device n → Front pattern device (n + 1)
front_step pattern device n h e f = elim (cases_lt n (length device)) [
  | inr past ↦ absurd (single_empty t ts star_not (along _ _ _ _ p (drop_all n device past) f.rest))
  | inl below ↦
      let x : ℕ = get_or device n 0 in
      let d : List ℕ = drop (n + 1) device in
      let m : Matches (t ∷ ts) (x ∷ d) = along _ _ _ _ p (drop_more device n 0 below) f.rest in
      let a : IsTrue (admits_byte t x) = single_admits t ts x d star_not m in
      let own : x ≡ get_or pattern n 0 = eqb-true x (get_or pattern n 0) (subst (λ (u : Token). admits_byte u x ≡ true) e a) in
      record {
        size = omega (arith, below);
        same = take_more device n 0 below ∙ (λ i. f.same i ++ own i ∷ []) ∙ sym (take_more pattern n 0 h);
        rest = single_rest t ts x d star_not m;
      }
]
  where
    t : Token
    t = token_at (drop n pattern)

    ts : List Token
    ts = tokens (drop (n + 1) pattern)

    star_not : is_star (token_at (drop n pattern)) ≡ false
    star_not = ap is_star e

    p : tokens (drop n pattern) ≡ token_at (drop n pattern) ∷ tokens (drop (n + 1) pattern)
    p = token_next pattern n 1 h (ap token_size (sym e))

pub front_of : (pattern device : List ℕ) (n : ℕ) → n ≤ length pattern → ArePlain pattern n → Matches (tokens pattern) device → Front pattern device n
front_of pattern device zero h plain m = record { size = omega arith; same = refl; rest = m }
front_of pattern device (suc n) h plain m =
    let f : Front pattern device n = front_of pattern device n (omega (arith, h)) (λ k below. plain k (omega (arith, below))) m in
    let g : Front pattern device (n + 1) = front_step pattern device n (omega (arith, h)) (plain n (omega arith)) f in
    subst (Front pattern device) (omega arith) g

pub front_byte : {pattern device : List ℕ} {n : ℕ} (k : ℕ) → k < n → Front pattern device n → get_or device k 0 ≡ get_or pattern k 0
front_byte {pattern = pattern} {device = device} {n = n} k h f = sym (get_or-take n device k 0 h) ∙ ap (λ l. get_or l k 0) f.same ∙ get_or-take n pattern k 0 h

-- plain bytes of a text are those of the pattern from a place on
pub plain_more : (pattern : List ℕ) (n : ℕ) → ArePlain pattern n → token_at (drop n pattern) ≡ literal (get_or pattern n 0) → ArePlain pattern (n + 1)
plain_more pattern n plain e k h = elim (cases_lt k n) [
  | inl below ↦ plain k below
  | inr past ↦ let same : n ≡ k = omega (arith, h, past) in subst (λ i. token_at (drop i pattern) ≡ literal (get_or pattern i 0)) same e
]

pub first_at : (pattern : List ℕ) (at : ℕ) → get_or (drop at pattern) 0 0 ≡ get_or pattern at 0
first_at pattern at = get_or-drop at pattern 0 0 ∙ ap (λ i. get_or pattern i 0) (omega arith)

pub not_true : (b : Bool) → not b ≡ true → b ≡ false
not_true true e = cc
not_true false e = refl
