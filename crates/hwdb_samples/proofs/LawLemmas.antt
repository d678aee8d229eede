-- What samples say of two sides.
use Rattle.std.proofs.Common.{◌≡◌, ◌∙◌, ap, sym, refl, subst, ℕ, Bool, true, false, cond, not, ◌&&◌, List, [], ◌∷◌, ◌++◌, filter, flat_map, map, Option, Some, None, ◌⊎◌, inl, inr, ⊎_elim}
use Rattle.std.specs.List.{AllByRecursion}
use Rattle.hwdb_spec.specs.Answers.{has_key, is_match}
use Rattle.hwdb_spec.specs.Assignment.{Assignment, in_order, text_cmp}
use Rattle.hwdb_spec.specs.Folders.{same}
use Rattle.hwdb_spec.specs.Lemmas.Orders.{same_itself, same_text}
use Rattle.hwdb_text.specs.Lemmas.Members.{Holds}
use Rattle.hwdb_pattern.specs.Laws.{MatchesIsTested}
use Rattle.hwdb_spec_commands.specs.SamplesFound.{Counted, Found, KeyedRule, agree, changed, counted, counted_after, counted_from, found_at, is_idle, is_kept, kept, key_in, last_from, listed, lone, moved, near, pattern_of, rules_of, sample_of, samples_by_key, same_rule, same_rules, same_value, samples_of, shown_by, shown_of, shows, texts_to_try, undecided_by, undecided_of}
use Rattle.hwdb_samples.specs.Keys.{in_turn, keyed_rules}
use Rattle.hwdb_spec_commands.specs.SampleDevices.{assigned_texts, keyed_texts}
use Rattle.hwdb_samples.specs.Laws.{AddedAreSettled, IsNothing, IsSettled, NothingIsSame, NothingIsSameOfAll, RemovedAreSettled, SamplesShow}
use Rattle.hwdb_spec_commands.specs.Overlaps.{apart, covers}
use Rattle.hwdb_spec_commands.specs.SampleRules.{AgreeOn, HasRule, HasSample, HasText, IsSame, RuleTexts, Shows, after_rule, after_rules, given}
use Rattle.hwdb_samples.proofs.FitLemmas.{found_passes}
use Rattle.hwdb_samples.proofs.KeyLemmas.{ordered_holds, same_rules_give_all}
use Rattle.hwdb_samples.proofs.RuleLemmas.{given_from}
use Rattle.hwdb_samples.proofs.SoundLemmas.{apart_is, covers_is}

true_false : true ≡ false → ⊥
true_false e = cc

some_is : (xs ys : List ℕ) → Some xs ≡ Some ys → xs ≡ ys
some_is xs ys e = ap (λ (o : Option (List ℕ)). elim o [ None ↦ [] | Some t ↦ t ]) e

and_one : (a b : Bool) → (a && b) ≡ true → a ≡ true
and_one true b e = refl
and_one false b e = absurd (true_false (sym e))

and_other : (a b : Bool) → (a && b) ≡ true → b ≡ true
and_other true b e = e
and_other false b e = absurd (true_false (sym e))

-- ---- values and rules that are the same

value_same : (a b : Option (List ℕ)) → same_value a b ≡ true → a ≡ b
value_same None None e = refl
value_same None (Some b) e = absurd (true_false (sym e))
value_same (Some a) None e = absurd (true_false (sym e))
value_same (Some a) (Some b) e = ap (λ (t : List ℕ). Some t) (same_text a b e)

value_itself : (a : Option (List ℕ)) → same_value a a ≡ true
value_itself None = refl
value_itself (Some a) = same_itself a

rule_same : (r s : RuleTexts) → same_rule r s ≡ true → r ≡ s
rule_same r s e =
    let p = same_text r.0 s.0 (and_one (same r.0 s.0) (same r.1 s.1) e) in
    let v = same_text r.1 s.1 (and_other (same r.0 s.0) (same r.1 s.1) e) in
    λ i. (p i, v i)

rules_same : (rs ss : List RuleTexts) → same_rules rs ss ≡ true → rs ≡ ss
unfolding same_rules
rules_same [] [] e = refl
rules_same [] (s ∷ ss) e = absurd (true_false (sym e))
rules_same (r ∷ rs) [] e = absurd (true_false (sym e))
rules_same (r ∷ rs) (s ∷ ss) e =
    let first = rule_same r s (and_one (same_rule r s) (same_rules rs ss) e) in
    let rest = rules_same rs ss (and_other (same_rule r s) (same_rules rs ss) e) in
    λ i. first i ∷ rest i

-- ---- rules that match, and rules that don't

taken : (device : List ℕ) (before : Option (List ℕ)) (r : RuleTexts) → is_match device r.0 ≡ true → after_rule device before r ≡ Some r.1
taken device before r e = ap (λ (b : Bool). cond b (Some r.1) before) e

passed : (device : List ℕ) (before : Option (List ℕ)) (r : RuleTexts) → is_match device r.0 ≡ false → after_rule device before r ≡ before
passed device before r e = ap (λ (b : Bool). cond b (Some r.1) before) e

module _ (t : MatchesIsTested) (device pattern : List ℕ) (m : is_match device pattern ≡ true) where
  -- rules that are apart don't count
  near_from : (before : Option (List ℕ)) (rules : List RuleTexts) → after_rules device before (near pattern rules) ≡ after_rules device before rules
  unfolding after_rules
  near_from before [] = refl
  near_from before (r ∷ rules) =
      let again : (b : Option (List ℕ)) → after_rules device b (near pattern rules) ≡ after_rules device b rules = λ b. near_from b rules in
      elim (apart pattern r.0) as (λ (b : Bool). apart pattern r.0 ≡ b → after_rules device before (cond (not b) (r ∷ near pattern rules) (near pattern rules)) ≡ after_rules device (after_rule device before r) rules) [
        | true ↦ λ e. again before ∙ ap (λ (x : Option (List ℕ)). after_rules device x rules) (sym (passed device before r (apart_is t pattern r.0 e device m)))
        | false ↦ λ e. again (after_rule device before r)
      ] refl

  -- what counts gives the same
  idle_same : (base : Option (List ℕ)) (r : RuleTexts) → base ≡ Some r.1 → after_rule device base r ≡ base
  idle_same base r e = elim (is_match device r.0) as (λ (b : Bool). cond b (Some r.1) base ≡ base) [ true ↦ sym e | false ↦ refl ]

  idle : (c : Counted) (r : RuleTexts) → is_idle c r.1 ≡ true → after_rule device (after_rules device c.0 c.1) r ≡ after_rules device c.0 c.1
  unfolding after_rules
  idle (base, []) r e = idle_same base r (value_same base (Some r.1) e)
  idle (base, s ∷ rest) r e = absurd (true_false (sym e))

  counted_one : (c : Counted) (r : RuleTexts) → after_rule device (after_rules device c.0 c.1) r ≡ after_rules device (counted_after pattern c r).0 (counted_after pattern c r).1
  unfolding after_rules
  counted_one c r =
      elim (covers r.0 pattern) as (λ (b : Bool). covers r.0 pattern ≡ b → after_rule device (after_rules device c.0 c.1) r
      ≡ (let n : Counted = cond b (Some r.1, []) (cond (is_idle c r.1) c (c.0, c.1 ++ r ∷ [])) in after_rules device n.0 n.1)) [
        | true ↦ λ e. taken device (after_rules device c.0 c.1) r (covers_is t r.0 pattern e device m)
        | false ↦ λ e. elim (is_idle c r.1) as (λ (b : Bool). is_idle c r.1 ≡ b → after_rule device (after_rules device c.0 c.1) r
            ≡ (let n : Counted = cond b c (c.0, c.1 ++ r ∷ []) in after_rules device n.0 n.1)) [
              | true ↦ λ k. idle c r k
              | false ↦ λ k. sym (given_from device c.0 c.1 r)
            ] refl
      ] refl

  counted_gives : (c : Counted) (rules : List RuleTexts) → after_rules device (after_rules device c.0 c.1) rules ≡ after_rules device (counted_from pattern c rules).0 (counted_from pattern c rules).1
  unfolding after_rules counted_from
  counted_gives c [] = refl
  counted_gives c (r ∷ rules) = ap (λ (x : Option (List ℕ)). after_rules device x rules) (counted_one c r) ∙ counted_gives (counted_after pattern c r) rules

  agreed : (old new : List RuleTexts) → agree old new pattern ≡ true → IsSame old new device
  unfolding after_rules
  agreed old new e =
      let one = counted pattern old in
      let other = counted pattern new in
      let base = value_same one.0 other.0 (and_one (same_value one.0 other.0) (same_rules one.1 other.1) e) in
      let rest = rules_same one.1 other.1 (and_other (same_value one.0 other.0) (same_rules one.1 other.1) e) in
      counted_gives (None, []) old ∙ ap (λ (b : Option (List ℕ)). after_rules device b one.1) base ∙ ap (after_rules device other.0) rest ∙ sym (counted_gives (None, []) new)

-- ---- a sample

module _ (t : MatchesIsTested) (old new : List RuleTexts) where
  abbrev Old : List ℕ → List RuleTexts
  Old p = near p old

  abbrev New : List ℕ → List RuleTexts
  New p = near p new

  same_near : (device pattern : List ℕ) → is_match device pattern ≡ true → IsSame (Old pattern) (New pattern) device → IsSame old new device
  same_near device pattern m e = sym (near_from t device pattern m None old) ∙ e ∙ near_from t device pattern m None new

  near_same : (device pattern : List ℕ) → is_match device pattern ≡ true → IsSame old new device → IsSame (Old pattern) (New pattern) device
  near_same device pattern m e = near_from t device pattern m None old ∙ e ∙ sym (near_from t device pattern m None new)

  showing : (pattern device : List ℕ) → shows (Old pattern) (New pattern) pattern device ≡ true → Shows old new (pattern, device)
  showing pattern device e =
      let one = given device (Old pattern) in
      let other = given device (New pattern) in
      let m = and_one (is_match device pattern) (not (same_value one other)) e in
      let d = and_other (is_match device pattern) (not (same_value one other)) e in
      record {
        matched = m;
        differs = λ is. true_false (sym d ∙ ap not (ap (λ (x : Option (List ℕ)). same_value x other) (near_same device pattern m is) ∙ value_itself other));
      }

  sampled : (pattern device : List ℕ) → sample_of (Old pattern) (New pattern) pattern ≡ Some device → Shows old new (pattern, device)
  sampled pattern device e = showing pattern device (found_passes (shows (Old pattern) (New pattern) pattern) (texts_to_try pattern) device e)

  shown_one : (pattern : List ℕ) (o : Option (List ℕ)) → sample_of (Old pattern) (New pattern) pattern ≡ o → AllByRecursion (Shows old new) (shown_by pattern o)
  shown_one pattern None e = tt
  shown_one pattern (Some device) e = (sampled pattern device e, tt)

  all_more : (xs ys : List (List ℕ × List ℕ)) → AllByRecursion (Shows old new) xs → AllByRecursion (Shows old new) ys → AllByRecursion (Shows old new) (xs ++ ys)
  all_more [] ys a b = b
  all_more (x ∷ xs) ys a b = (a.0, all_more xs ys a.1 b)

  pub all_show : (patterns : List (List ℕ)) → AllByRecursion (Shows old new) (flat_map (shown_of old new) patterns)
  all_show [] = tt
  all_show (p ∷ patterns) = all_more (shown_of old new p) (flat_map (shown_of old new) patterns) (shown_one p (sample_of (Old p) (New p) p) refl) (all_show patterns)

  -- ---- each pattern is settled

  abbrev Settles : List ℕ → (shown : List (List ℕ × List ℕ)) (undecided : List (List ℕ)) → Type 0
  Settles p shown undecided = AgreeOn old new p ⊎ (HasSample shown p ⊎ HasText undecided p)

  by_agreement : (p : List ℕ) (b : Bool) → agree (Old p) (New p) p ≡ b → Settles p [] (undecided_by p None b)
  by_agreement p true e = inl (λ device m. same_near device p m (agreed t device p m (Old p) (New p) e))
  by_agreement p false e = inr (inr (inl refl))

  one_settled : (p : List ℕ) → Settles p (shown_of old new p) (undecided_of old new p)
  one_settled p = by (sample_of (Old p) (New p) p)
    where
      by : (o : Option (List ℕ)) → Settles p (shown_by p o) (undecided_by p o (agree (Old p) (New p) p))
      by None = by_agreement p (agree (Old p) (New p) p) refl
      by (Some device) = inr (inl (inl refl))

  sample_left : (xs ys : List (List ℕ × List ℕ)) (p : List ℕ) → HasSample xs p → HasSample (xs ++ ys) p
  sample_left [] ys p h = absurd h
  sample_left (x ∷ xs) ys p (inl e) = inl e
  sample_left (x ∷ xs) ys p (inr h) = inr (sample_left xs ys p h)

  sample_right : (xs ys : List (List ℕ × List ℕ)) (p : List ℕ) → HasSample ys p → HasSample (xs ++ ys) p
  sample_right [] ys p h = h
  sample_right (x ∷ xs) ys p h = inr (sample_right xs ys p h)

  text_left : (xs ys : List (List ℕ)) (p : List ℕ) → HasText xs p → HasText (xs ++ ys) p
  text_left [] ys p h = absurd h
  text_left (x ∷ xs) ys p (inl e) = inl e
  text_left (x ∷ xs) ys p (inr h) = inr (text_left xs ys p h)

  text_right : (xs ys : List (List ℕ)) (p : List ℕ) → HasText ys p → HasText (xs ++ ys) p
  text_right [] ys p h = h
  text_right (x ∷ xs) ys p h = inr (text_right xs ys p h)

  abbrev SettledBy : List ℕ → List (List ℕ) → Type 0
  SettledBy p patterns = Settles p (flat_map (shown_of old new) patterns) (flat_map (undecided_of old new) patterns)

  first_settles : (p : List ℕ) (patterns : List (List ℕ)) → Settles p (shown_of old new p) (undecided_of old new p) → SettledBy p (p ∷ patterns)
  first_settles p patterns (inl a) = inl a
  first_settles p patterns (inr (inl a)) = inr (inl (sample_left (shown_of old new p) (flat_map (shown_of old new) patterns) p a))
  first_settles p patterns (inr (inr a)) = inr (inr (text_left (undecided_of old new p) (flat_map (undecided_of old new) patterns) p a))

  rest_settles : (q p : List ℕ) (patterns : List (List ℕ)) → SettledBy p patterns → SettledBy p (q ∷ patterns)
  rest_settles q p patterns (inl a) = inl a
  rest_settles q p patterns (inr (inl a)) = inr (inl (sample_right (shown_of old new q) (flat_map (shown_of old new) patterns) p a))
  rest_settles q p patterns (inr (inr a)) = inr (inr (text_right (undecided_of old new q) (flat_map (undecided_of old new) patterns) p a))

  pub all_settled : (patterns : List (List ℕ)) (p : List ℕ) → Holds patterns p → SettledBy p patterns
  all_settled [] p h = absurd h
  all_settled (q ∷ patterns) p (inl e) = subst (λ (x : List ℕ). SettledBy x (q ∷ patterns)) (sym e) (first_settles q patterns (one_settled q))
  all_settled (q ∷ patterns) p (inr h) = rest_settles q p patterns (all_settled patterns p h)

  listed_settled : (p : List ℕ) → Holds (listed old new) p → IsSettled old new (samples_of old new) p
  listed_settled p h = all_settled (changed old new) p (ordered_holds (listed old new) p h)

-- ---- devices that no changed pattern matches

abbrev IsUnmet : List (List ℕ) → List ℕ → Type 0
IsUnmet patterns device = (p : List ℕ) → Holds patterns p → is_match device p ≡ false

held_left : (xs ys : List (List ℕ)) (p : List ℕ) → Holds xs p → Holds (xs ++ ys) p
held_left [] ys p h = absurd h
held_left (x ∷ xs) ys p (inl e) = inl e
held_left (x ∷ xs) ys p (inr h) = inr (held_left xs ys p h)

held_right : (xs ys : List (List ℕ)) (p : List ℕ) → Holds ys p → Holds (xs ++ ys) p
held_right [] ys p h = h
held_right (x ∷ xs) ys p h = inr (held_right xs ys p h)

module _ (device : List ℕ) where
  kept_gives : (other : List RuleTexts) (before : Option (List ℕ)) (rules : List RuleTexts) → IsUnmet (lone other rules) device → after_rules device before rules ≡ after_rules device before (kept other rules)
  unfolding after_rules
  kept_gives other before [] none = refl
  kept_gives other before (r ∷ rules) none =
      let again : (b : Option (List ℕ)) → IsUnmet (lone other rules) device → after_rules device b rules ≡ after_rules device b (kept other rules) = λ b. kept_gives other b rules in
      elim (is_kept other r) as (λ (b : Bool). IsUnmet (map pattern_of (cond (not b) (r ∷ filter (λ s. not (is_kept other s)) rules) (filter (λ s. not (is_kept other s)) rules))) device
      → after_rules device (after_rule device before r) rules ≡ after_rules device before (cond b (r ∷ kept other rules) (kept other rules))) [
        | true ↦ λ n. again (after_rule device before r) n
        | false ↦ λ n. ap (λ (x : Option (List ℕ)). after_rules device x rules) (passed device before r (n r.0 (inl refl))) ∙ again before (λ p h. n p (inr h))
      ] none

  none_match : (before : Option (List ℕ)) (rules : List RuleTexts) → IsUnmet (map pattern_of rules) device → after_rules device before rules ≡ before
  unfolding after_rules
  none_match before [] none = refl
  none_match before (r ∷ rules) none = ap (λ (x : Option (List ℕ)). after_rules device x rules) (passed device before r (none r.0 (inl refl))) ∙ none_match before rules (λ p h. none p (inr h))

  moved_same : (before : Option (List ℕ)) (rs ss : List RuleTexts) → IsUnmet (moved rs ss) device → after_rules device before rs ≡ after_rules device before ss
  unfolding after_rules moved
  moved_same before [] ss none = sym (none_match before ss none)
  moved_same before (r ∷ rs) [] none = none_match before (r ∷ rs) none
  moved_same before (r ∷ rs) (s ∷ ss) none =
      let again : (b : Option (List ℕ)) → IsUnmet (moved rs ss) device → after_rules device b rs ≡ after_rules device b ss = λ b. moved_same b rs ss in
      elim (same_rule r s) as (λ (b : Bool). same_rule r s ≡ b → IsUnmet (cond b [] (r.0 ∷ s.0 ∷ []) ++ moved rs ss) device → after_rules device (after_rule device before r) rs ≡ after_rules device (after_rule device before s) ss) [
        | true ↦ λ e n. again (after_rule device before r) n ∙ ap (λ (x : RuleTexts). after_rules device (after_rule device before x) ss) (rule_same r s e)
        | false ↦ λ e n.
            ap (λ (x : Option (List ℕ)). after_rules device x rs) (passed device before r (n r.0 (inl refl))) ∙ again before (λ p h. n p (inr (inr h)))
            ∙ ap (λ (x : Option (List ℕ)). after_rules device x ss) (sym (passed device before s (n s.0 (inr (inl refl)))))
      ] refl none

  unmet_same : (old new : List RuleTexts) → IsUnmet (listed old new) device → IsSame old new device
  unmet_same old new none =
      kept_gives new None old (λ p h. none p (held_left (lone new old) (lone old new ++ moved (kept new old) (kept old new)) p h))
      ∙ moved_same None (kept new old) (kept old new) (λ p h. none p (held_right (lone new old) (lone old new ++ moved (kept new old) (kept old new)) p (held_right (lone old new) (moved (kept new old) (kept old new)) p h)))
      ∙ sym (kept_gives old None new (λ p h. none p (held_right (lone new old) (lone old new ++ moved (kept new old) (kept old new)) p (held_left (lone old new) (moved (kept new old) (kept old new)) p h))))

  met_or : (patterns : List (List ℕ)) → ((p : List ℕ) × Holds patterns p × (is_match device p ≡ true)) ⊎ IsUnmet patterns device
  met_or [] = inr (λ p h. absurd h)
  met_or (q ∷ patterns) =
      elim (is_match device q) as (λ (b : Bool). is_match device q ≡ b → ((p : List ℕ) × Holds (q ∷ patterns) p × (is_match device p ≡ true)) ⊎ IsUnmet (q ∷ patterns) device) [
        | true ↦ λ e. inl (q, inl refl, e)
        | false ↦ λ e. elim (met_or patterns) [
          | inl m ↦ inl (m.0, inr m.1, m.2)
          | inr n ↦ inr (λ p h. ⊎_elim {C = is_match device p ≡ false} (λ own. ap (is_match device) own ∙ e) (n p) h)
        ]
      ] refl

only_agreed : (old new : List RuleTexts) (found : Found) (p : List ℕ) → found.shown ≡ [] → found.undecided ≡ [] → IsSettled old new found p → AgreeOn old new p
only_agreed old new found p s u (inl a) = a
only_agreed old new found p s u (inr (inl a)) = absurd (subst (λ (l : List (List ℕ × List ℕ)). HasSample l p) s a)
only_agreed old new found p s u (inr (inr a)) = absurd (subst (λ (l : List (List ℕ)). HasText l p) u a)

-- ---- the laws

pub samples_show : MatchesIsTested → SamplesShow
samples_show t old new = all_show t old new (changed old new)

pub nothing_is_same : MatchesIsTested → NothingIsSame
nothing_is_same t old new s u device = elim (met_or device (listed old new)) [
  | inl m ↦ only_agreed old new (samples_of old new) m.0 s u (listed_settled t old new m.0 m.1) device m.2
  | inr none ↦ unmet_same device old new none
]

last_has : (p : List ℕ) (before : Option (List ℕ)) (rules : List RuleTexts) (v : List ℕ) → last_from p before rules ≡ Some v → HasRule rules p v ⊎ (before ≡ Some v)
unfolding last_from
last_has p before [] v e = inr e
last_has p before (r ∷ rules) v e =
    let again : (b : Option (List ℕ)) → last_from p b rules ≡ Some v → HasRule rules p v ⊎ (b ≡ Some v) = λ b. last_has p b rules v in
    elim (same p r.0) as (λ (b : Bool). same p r.0 ≡ b → last_from p (cond b (Some r.1) before) rules ≡ Some v → HasRule (r ∷ rules) p v ⊎ (before ≡ Some v)) [
      | true ↦ λ s k. elim (again (Some r.1) k) [
        | inl h ↦ inl (inr h)
        | inr own ↦ inl (inl (sym (same_text p r.0 s), some_is r.1 v own))
      ]
      | false ↦ λ s k. elim (again before k) [
        | inl h ↦ inl (inr h)
        | inr b ↦ inr b
      ]
    ] refl e

kept_or_listed : (other rules : List RuleTexts) (p v : List ℕ) → HasRule rules p v → HasRule other p v ⊎ Holds (lone other rules) p
kept_or_listed other [] p v h = absurd h
kept_or_listed other (r ∷ rules) p v (inl e) =
    elim (is_kept other r) as (λ (b : Bool). is_kept other r ≡ b → HasRule other p v ⊎ Holds (map pattern_of (cond (not b) (r ∷ filter (λ s. not (is_kept other s)) rules) (filter (λ s. not (is_kept other s)) rules))) p) [
      | true ↦ λ k. elim (last_has r.0 None other r.1 (value_same (last_from r.0 None other) (Some r.1) k)) [
        | inl h ↦ inl (subst (λ (x : List ℕ). HasRule other x v) e.0 (subst (λ (x : List ℕ). HasRule other r.0 x) e.1 h))
        | inr none ↦ absurd (cc)
      ]
      | false ↦ λ k. inr (inl (sym e.0))
    ] refl
kept_or_listed other (r ∷ rules) p v (inr h) =
    elim (kept_or_listed other rules p v h) [
      | inl there ↦ inl there
      | inr l ↦ inr (elim (is_kept other r) as (λ (b : Bool). Holds (map pattern_of (cond (not b) (r ∷ filter (λ s. not (is_kept other s)) rules) (filter (λ s. not (is_kept other s)) rules))) p) [ true ↦ l | false ↦ inr l ])
    ]

pub removed_are_settled : MatchesIsTested → RemovedAreSettled
removed_are_settled t old new p v h = elim (kept_or_listed new old p v h) [
  | inl there ↦ inl there
  | inr l ↦ inr (listed_settled t old new p (held_left (lone new old) (lone old new ++ moved (kept new old) (kept old new)) p l))
]

pub added_are_settled : MatchesIsTested → AddedAreSettled
added_are_settled t old new p v h = elim (kept_or_listed old new p v h) [
  | inl there ↦ inl there
  | inr l ↦ inr (listed_settled t old new p (held_right (lone new old) (lone old new ++ moved (kept new old) (kept old new)) p (held_left (lone old new) (moved (kept new old) (kept old new)) p l)))
]

-- ---- all keys

assigned_of : (key : List ℕ) (all : List Assignment) → rules_of key (map keyed_texts all) ≡ map assigned_texts (filter (has_key key) all)
assigned_of key [] = refl
assigned_of key (f ∷ all) =
    let again : rules_of key (map keyed_texts all) ≡ map assigned_texts (filter (has_key key) all) = assigned_of key all in
    elim (has_key key f) as (λ b. map (λ (p : KeyedRule). p.1) (cond b (keyed_texts f ∷ filter (λ (p : KeyedRule). same key p.0) (map keyed_texts all)) (filter (λ (p : KeyedRule). same key p.0) (map keyed_texts all)))
    ≡ map assigned_texts (cond b (f ∷ filter (has_key key) all) (filter (has_key key) all))) [
      | true ↦ ap (λ l. assigned_texts f ∷ l) again
      | false ↦ again
    ]

rules_key : (q : List ℕ) (list : List KeyedRule) (r : RuleTexts) (rs : List RuleTexts) → rules_of q list ≡ r ∷ rs → Holds (map key_in list) q
rules_key q [] r rs e = cc
rules_key q (p ∷ list) r rs e =
    let again : rules_of q list ≡ r ∷ rs → Holds (map key_in list) q = rules_key q list r rs in
    elim (same q p.0) as (λ b. same q p.0 ≡ b → map (λ (p : KeyedRule). p.1) (cond b (p ∷ filter (λ (p : KeyedRule). same q p.0) list) (filter (λ (p : KeyedRule). same q p.0) list)) ≡ r ∷ rs → Holds (map key_in (p ∷ list)) q) [
      | true ↦ λ h k. inl (same_text q p.0 h)
      | false ↦ λ h k. inr (again k)
    ] refl e

module _ (t : MatchesIsTested) (old new : List KeyedRule) where
  abbrev Keys : List (List ℕ)
  Keys = map key_in old ++ map key_in new

  picked : (keys : List (List ℕ)) (q : List ℕ) → AllByRecursion IsNothing (map (found_at old new) keys) → Holds keys q → IsNothing (found_at old new q)
  picked [] q all h = absurd h
  picked (k ∷ keys) q all (inl e) = subst (λ (x : List ℕ). IsNothing (found_at old new x)) (sym e) all.0
  picked (k ∷ keys) q all (inr h) = picked keys q all.1 h

  at_key : AllByRecursion IsNothing (samples_by_key old new) → (q device : List ℕ) → Holds Keys q → IsSame (rules_of q old) (rules_of q new) device
  at_key all q device h =
      let none = picked (in_order text_cmp Keys) q all (ordered_holds Keys q h) in
      nothing_is_same t (rules_of q old) (rules_of q new) none.0 none.1 device

  same_at : AllByRecursion IsNothing (samples_by_key old new) → (q device : List ℕ) → IsSame (rules_of q old) (rules_of q new) device
  same_at all q device = by (rules_of q old) (rules_of q new) refl refl
    where
      by : (o n : List RuleTexts) → rules_of q old ≡ o → rules_of q new ≡ n → IsSame (rules_of q old) (rules_of q new) device
      by (r ∷ rs) n e k = at_key all q device (held_left (map key_in old) (map key_in new) q (rules_key q old r rs e))
      by [] (r ∷ rs) e k = at_key all q device (held_right (map key_in old) (map key_in new) q (rules_key q new r rs k))
      by [] [] e k = ap (given device) (e ∙ sym k)

pub nothing_is_same_of_all : MatchesIsTested → NothingIsSameOfAll
nothing_is_same_of_all t old new all device =
    same_rules_give_all device old new (λ key before after r s.
    let e = r ∙ sym (assigned_of key (in_turn old)) in
    let k = s ∙ sym (assigned_of key (in_turn new)) in
    ap (given device) e ∙ same_at t (keyed_rules old) (keyed_rules new) all key device ∙ ap (given device) (sym k))
