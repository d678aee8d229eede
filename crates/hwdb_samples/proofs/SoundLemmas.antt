-- What overlaps mean: patterns that match no device both, and patterns of which one matches all that the other does.
use Rattle.std.proofs.Common.{◌≡◌, ◌∙◌, ap, sym, refl, subst, ℕ, ◌-◌, Bool, true, false, cond, ◌==◌, ◌&&◌, ne_eqb, IsTrue, List, [], ◌∷◌, ◌++◌, ◌⊎◌, inl, inr, append_assoc, eq-eqb}
use Rattle.std.proofs.lemmas.Bool.{cases_eq}
use Rattle.hwdb_spec.specs.Answers.{is_match}
use Rattle.hwdb_spec.specs.Folders.{same}
use Rattle.hwdb_spec.specs.Forms.{is_star}
use Rattle.hwdb_spec.specs.Lemmas.Orders.{same_text}
use Rattle.hwdb_spec.specs.Patterns.{Token, star, one, bracket, literal, Admits, Matches, admits_byte, token_at, token_size, tokens, tokens_from}
use Rattle.hwdb_pattern.specs.Laws.{MatchesIsTested}
use Rattle.hwdb_pattern.specs.Lemmas.Matching.{one_byte, single_admits, single_rest, single_empty, star_nothing}
use Rattle.hwdb_samples.specs.Internal.{AreApart, Covers, IsPlain, TakesAll, Within}
use Rattle.hwdb_spec_commands.specs.Overlaps.{apart, covers, is_plain, some_end, takes_all, within}
use Rattle.hwdb_spec_commands.specs.SampleTexts.{is_one}

-- ---- the test that computes

tested : (t : MatchesIsTested) (device pattern : List ℕ) → is_match device pattern ≡ true → Matches (tokens pattern) device
tested t device pattern m = (t (tokens pattern) device).0 m

is_tested : (t : MatchesIsTested) (device pattern : List ℕ) → Matches (tokens pattern) device → is_match device pattern ≡ true
is_tested t device pattern m = (t (tokens pattern) device).1 m

not_true : (b : Bool) → (b ≡ true → ⊥) → b ≡ false
not_true true n = absurd (n refl)
not_true false n = refl

-- ---- apart

plain : (first : ℕ) (x : Token) → (first ≡ 42 → ⊥) → (first ≡ 63 → ⊥) → (first ≡ 91 → ⊥) → cond (first == 42) star (cond (first == 63) one (cond (first == 91) x (literal first))) ≡ literal first
plain first x a b d = rw (ne_eqb first 42 a) (rw (ne_eqb first 63 b) (rw (ne_eqb first 91 d) refl))

plain_token : (b : ℕ) (rest : List ℕ) → IsPlain b → token_at (b ∷ rest) ≡ literal b
unfolding token_at
plain_token b rest p = plain b _ p.no_star p.no_mark p.no_bracket

plain_tokens : (b : ℕ) (rest : List ℕ) → IsPlain b → tokens (b ∷ rest) ≡ literal b ∷ tokens rest
unfolding tokens_from
plain_tokens b rest p = ap (λ (t : Token). t ∷ tokens_from (token_size t - 1) rest) (plain_token b rest p)

-- some device is matched by both
pub record AreBoth (p q : List ℕ) : Type 0 where
  pub device : List ℕ
  pub one : Matches (tokens p) device
  pub other : Matches (tokens q) device

own_byte : (b x : ℕ) → IsTrue (admits_byte (literal b) x) → x ≡ b
own_byte b x t = by (cases_eq x b)
  where
    by : (x ≡ b) ⊎ (x ≡ b → ⊥) → x ≡ b
    by (inl e) = e
    by (inr n) = absurd (let f : (x == b) ≡ false = ne_eqb x b n in let g : (x == b) ≡ true = t in let clash : true ≡ false = sym g ∙ f in cc)

pair : (b c : ℕ) (xs ys : List Token) (device : List ℕ) → Matches (literal b ∷ xs) device → Matches (literal c ∷ ys) device → (rest : List ℕ) × (b ≡ c) × Matches xs rest × Matches ys rest
pair b c xs ys [] m n = absurd (single_empty (literal b) xs refl m)
pair b c xs ys (x ∷ device) m n =
    (device, sym (own_byte b x (single_admits (literal b) xs x device refl m)) ∙ own_byte c x (single_admits (literal c) ys x device refl n), single_rest (literal b) xs x device refl m, single_rest (literal c) ys x device refl n)

both_heads : (b c : ℕ) (xs ys : List ℕ) → IsPlain b → IsPlain c → AreBoth (b ∷ xs) (c ∷ ys) → (b ≡ c) × AreBoth xs ys
both_heads b c xs ys p q a =
    let r = pair b c (tokens xs) (tokens ys) a.device (subst (λ (ts : List Token). Matches ts a.device) (plain_tokens b xs p) a.one) (subst (λ (ts : List Token). Matches ts a.device) (plain_tokens c ys q) a.other) in
    (r.1, record { device = r.0; one = r.2; other = r.3 })

true_false : true ≡ false → ⊥
true_false e = cc

plain_is : (b : ℕ) → is_plain b ≡ true → IsPlain b
plain_is b t = record {
  no_star = λ e. true_false (sym t ∙ ap is_plain e);
  no_mark = λ e. true_false (sym t ∙ ap is_plain e);
  no_bracket = λ e. true_false (sym t ∙ ap is_plain e);
}

and_one : (a b : Bool) → (a && b) ≡ true → a ≡ true
and_one true b e = refl
and_one false b e = absurd (true_false (sym e))

and_other : (a b : Bool) → (a && b) ≡ true → b ≡ true
and_other true b e = e
and_other false b e = absurd (true_false (sym e))

cond_yes : (c x : Bool) → cond c x false ≡ true → (c ≡ true) × (x ≡ true)
cond_yes true x e = (refl, e)
cond_yes false x e = absurd (true_false (sym e))

same_then : (a b : ℕ) (x : Bool) → cond (a == b) x true ≡ true → a ≡ b → x ≡ true
same_then a b x e i = sym (ap (λ (k : Bool). cond k x true) (eq-eqb a b i)) ∙ e

apart_none : (p q : List ℕ) → apart p q ≡ true → AreBoth p q → ⊥
unfolding apart
apart_none [] q e both = true_false (sym e)
apart_none (a ∷ p) [] e both = true_false (sym e)
apart_none (a ∷ p) (b ∷ q) e both =
    let plain = cond_yes (is_plain a && is_plain b) (cond (a == b) (apart p q) true) e in
    let rest = both_heads a b p q (plain_is a (and_one (is_plain a) (is_plain b) plain.0)) (plain_is b (and_other (is_plain a) (is_plain b) plain.0)) both in
    apart_none p q (same_then a b (apart p q) plain.1 rest.0) rest.1

pub apart_is : (t : MatchesIsTested) (p q : List ℕ) → apart p q ≡ true → AreApart p q
apart_is t p q e device m = not_true (is_match device q) (λ n. apart_none p q e (record { device = device; one = tested t device p m; other = tested t device q n }))

-- ---- within

star_is : (t : Token) → is_star t ≡ true → t ≡ star
star_is star e = refl
star_is one e = cc
star_is (bracket b) e = cc
star_is (literal b) e = cc

skip_star : (o : Token) (ps qs : List Token) → is_star o ≡ true → Within ps qs → Within ps (o ∷ qs)
skip_star o ps qs s k device m = subst (λ (t : Token). Matches (t ∷ qs) device) (sym (star_is o s)) (star_nothing qs device (k device m))

star_over : (t : Token) (ps qs : List Token) → Within ps (star ∷ qs) → Within (t ∷ ps) (star ∷ qs)
star_over t ps qs k device m =
    let r = k m.1 m.4 in
    (m.0 ++ r.0, r.1, m.2 ∙ ap (λ x. m.0 ++ x) r.2 ∙ sym (append_assoc m.0 r.0 r.1), tt, r.4)

star_takes : (o t : Token) (ps qs : List Token) → is_star o ≡ true → Within ps (o ∷ qs) → Within (t ∷ ps) (o ∷ qs)
star_takes o t ps qs s k =
    subst (λ (u : Token). Within (t ∷ ps) (u ∷ qs)) (sym (star_is o s)) (star_over t ps qs (subst (λ (u : Token). Within ps (u ∷ qs)) (star_is o s) k))

admits_one : (o : Token) (piece : List ℕ) → is_star o ≡ false → (b : ℕ) × (piece ≡ b ∷ []) × IsTrue (admits_byte o b) → Admits o piece
admits_one star piece s a = cc
admits_one one piece s a = a
admits_one (bracket b) piece s a = a
admits_one (literal b) piece s a = a

one_takes : (o t : Token) (ps qs : List Token) → TakesAll o t → Within ps qs → Within (t ∷ ps) (o ∷ qs)
one_takes o t ps qs takes k device m =
    let a = one_byte t m.0 takes.under_star m.3 in
    (m.0, m.1, m.2, admits_one o m.0 takes.over_star (a.0, a.1, takes.takes a.0 a.2), k m.1 m.4)

one_admits : (o : Token) → is_one o ≡ true → (b : ℕ) → IsTrue (admits_byte o b)
one_admits star e b = absurd (true_false (sym e))
one_admits one e b = refl
one_admits (bracket found) e b = absurd (true_false (sym e))
one_admits (literal own) e b = absurd (true_false (sym e))

takes_is : (o t : Token) → is_star o ≡ false → takes_all o t ≡ true → TakesAll o t
takes_is o star s e = absurd (true_false (sym e))
takes_is o one s e = record { over_star = s; under_star = refl; takes = λ b a. one_admits o e b }
takes_is o (bracket found) s e = record { over_star = s; under_star = refl; takes = λ b a. one_admits o e b }
takes_is o (literal own) s e = record { over_star = s; under_star = refl; takes = λ b a. subst (λ (x : ℕ). IsTrue (admits_byte o x)) (sym (own_byte own b a)) e }

star_sound : (o : Token) (qs ps : List Token) → is_star o ≡ true → ((rest : List Token) → within qs rest ≡ true → Within rest qs) → some_end (within qs) ps ≡ true → Within ps (o ∷ qs)
unfolding some_end
star_sound o qs [] s again e = skip_star o [] qs s (again [] e)
star_sound o qs (t ∷ ps) s again e =
    let later : some_end (within qs) ps ≡ true → Within ps (o ∷ qs) = star_sound o qs ps s again in
    elim (within qs (t ∷ ps)) as (λ (b : Bool). within qs (t ∷ ps) ≡ b → cond b true (some_end (within qs) ps) ≡ true → Within (t ∷ ps) (o ∷ qs)) [
      | true ↦ λ h k. skip_star o (t ∷ ps) qs s (again (t ∷ ps) h)
      | false ↦ λ h k. star_takes o t ps qs s (later k)
    ] refl e

pub within_is : (qs ps : List Token) → within qs ps ≡ true → Within ps qs
unfolding within
within_is [] [] e = λ device m. m
within_is [] (t ∷ ps) e = absurd (true_false (sym e))
within_is (o ∷ qs) [] e =
    let again : (rest : List Token) → within qs rest ≡ true → Within rest qs = within_is qs in
    elim (is_star o) as (λ (b : Bool). is_star o ≡ b → cond b (some_end (within qs) []) false ≡ true → Within [] (o ∷ qs)) [
      | true ↦ λ s k. star_sound o qs [] s again k
      | false ↦ λ s k. absurd (true_false (sym k))
    ] refl e
within_is (o ∷ qs) (t ∷ ps) e =
    let again : (rest : List Token) → within qs rest ≡ true → Within rest qs = within_is qs in
    elim (is_star o) as (λ (b : Bool). is_star o ≡ b → cond b (some_end (within qs) (t ∷ ps)) (within qs ps && takes_all o t) ≡ true → Within (t ∷ ps) (o ∷ qs)) [
      | true ↦ λ s k. star_sound o qs (t ∷ ps) s again k
      | false ↦ λ s k. one_takes o t ps qs (takes_is o t s (and_other (within qs ps) (takes_all o t) k)) (again ps (and_one (within qs ps) (takes_all o t) k))
    ] refl e

pub covers_is : (t : MatchesIsTested) (over under : List ℕ) → covers over under ≡ true → Covers over under
covers_is t over under e device m =
    elim (same over under) as (λ (b : Bool). same over under ≡ b → cond b true (within (tokens over) (tokens under)) ≡ true → is_match device over ≡ true) [
      | true ↦ λ s k. ap (is_match device) (same_text over under s) ∙ m
      | false ↦ λ s k. is_tested t device over (within_is (tokens over) (tokens under) k device (tested t device under m))
    ] refl e
