-- Rules, one more at a time.
use Rattle.std.proofs.Common.{◌≡◌, ◌∙◌, ap, sym, refl, ℕ, ◌+◌, ◌-◌, ◌<◌, ◌≤◌, ◌==◌, ◌&&◌, Bool, true, false, cond, List, [], ◌∷◌, ◌++◌, Bor, drop, take, map, length, get_or, Option, Some, None, option_map, arith, append_assoc, eq-eqb, ne_eqb}
use Rattle.std.specs.BTreeMap.{BTreeMap, get_by, is_at}
use Rattle.std.specs.Map.{lookup}
use Rattle.std.specs.BTreeSet.{BTreeSet, insert_key}
use Rattle.std.specs.Ordering.{is_eq, match_ordering}
use Rattle.std.specs.declared.cmp.Ordering.TheVariants.{Less, Equal, Greater}
use Rattle.std.proofs.lemmas.Cmp.{nat_list_cmp_total}
use Rattle.std.proofs.lemmas.List.{append-nil, drop_all, drop_more, length-drop, map-append, take_more}
use Rattle.hwdb_spec.specs.Assignment.{in_order, put, put_all, text_cmp}
use Rattle.hwdb_spec.specs.Folders.{same}
use Rattle.hwdb_spec.specs.Lemmas.Orders.{turned}
use Rattle.hwdb_spec_commands.specs.SamplesFound.{Counted, counted, counted_after, counted_from, differing, is_kept, last_from, moved, pattern_of, same_rule, same_rules, same_value}
use Rattle.hwdb_samples.specs.Internal.{IsLasts, IsSetOf}
use Rattle.hwdb_spec_commands.specs.SampleRules.{RuleTexts, after_rule, after_rules, given}
use Rattle.hwdb_samples.specs.Views.{own_text, rule_texts}
use Rattle.hwdb_samples.specs.declared.rules.Rule.{Rule}

-- a list as far as it was gone through, mapped
pub mapped_more : {A B : Type 0} (f : A → B) (xs : List A) (i : ℕ) (d : A) → i < length xs → map f (take (i + 1) xs) ≡ map f (take i xs) ++ f (get_or xs i d) ∷ []
mapped_more f xs i d h = ap (map f) (take_more xs i d h) ∙ map-append f (take i xs) (get_or xs i d ∷ [])

pub mapped_rest : {A B : Type 0} (f : A → B) (xs : List A) (i : ℕ) (d : A) → i < length xs → map f (drop i xs) ≡ f (get_or xs i d) ∷ map f (drop (i + 1) xs)
mapped_rest f xs i d h = ap (map f) (drop_more xs i d h)

-- ---- what rules give

pub given_from : (device : List ℕ) (before : Option (List ℕ)) (rules : List RuleTexts) (rule : RuleTexts) → after_rules device before (rules ++ rule ∷ []) ≡ after_rule device (after_rules device before rules) rule
unfolding after_rules
given_from device before [] rule = refl
given_from device before (r ∷ rules) rule = given_from device (after_rule device before r) rules rule

pub given_none : (device : List ℕ) → None ≡ given device []
unfolding after_rules
given_none device = refl

pub given_next : (device : List ℕ) (rules : List Rule) (i : ℕ) (d : Rule) (before after : Option (List ℕ)) → i < length rules → before ≡ given device (map rule_texts (take i rules)) → after ≡ after_rule device before (rule_texts (get_or rules i d))
    → after ≡ given device (map rule_texts (take (i + 1) rules))
given_next device rules i d before after h b a =
    a ∙ ap (λ (x : Option (List ℕ)). after_rule device x (rule_texts (get_or rules i d))) b
    ∙ sym (given_from device None (map rule_texts (take i rules)) (rule_texts (get_or rules i d))) ∙ ap (given device) (sym (mapped_more rule_texts rules i d h))

-- ---- what counts

pub counted_more : (pattern : List ℕ) (before : Counted) (rules : List RuleTexts) (rule : RuleTexts) → counted_from pattern before (rules ++ rule ∷ []) ≡ counted_after pattern (counted_from pattern before rules) rule
unfolding counted_from
counted_more pattern before [] rule = refl
counted_more pattern before (r ∷ rules) rule = counted_more pattern (counted_after pattern before r) rules rule

pub counted_none : (pattern : List ℕ) → (None, []) ≡ counted pattern []
unfolding counted_from
counted_none pattern = refl

pub counted_next : (pattern : List ℕ) (rules : List Rule) (i : ℕ) (d : Rule) (before after : Counted) → i < length rules → before ≡ counted pattern (map rule_texts (take i rules)) → after ≡ counted_after pattern before (rule_texts (get_or rules i d))
    → after ≡ counted pattern (map rule_texts (take (i + 1) rules))
counted_next pattern rules i d before after h b a =
    a ∙ ap (λ (x : Counted). counted_after pattern x (rule_texts (get_or rules i d))) b
    ∙ sym (counted_more pattern (None, []) (map rule_texts (take i rules)) (rule_texts (get_or rules i d))) ∙ ap (counted pattern) (sym (mapped_more rule_texts rules i d h))

-- ---- the same rules

module _ (one other : List Rule) (i : ℕ) where
  abbrev Ones : List RuleTexts
  Ones = map rule_texts (drop i one)

  abbrev Others : List RuleTexts
  Others = map rule_texts (drop i other)

  pub rules_at : (d e : Rule) → i < length one → i < length other
      → same_rules Ones Others ≡ (same_rule (rule_texts (get_or one i d)) (rule_texts (get_or other i e)) && same_rules (map rule_texts (drop (i + 1) one)) (map rule_texts (drop (i + 1) other)))
  unfolding same_rules
  rules_at d e h k = ap (λ (l : List RuleTexts). same_rules l Others) (mapped_rest rule_texts one i d h) ∙ ap (same_rules (rule_texts (get_or one i d) ∷ map rule_texts (drop (i + 1) one))) (mapped_rest rule_texts other i e k)

  pub rules_next : (d e : Rule) → i < length one → i < length other → true ≡ same_rule (rule_texts (get_or one i d)) (rule_texts (get_or other i e)) → same_rules Ones Others ≡ same_rules (map rule_texts (drop (i + 1) one)) (map rule_texts (drop (i + 1) other))
  rules_next d e h k s = rules_at d e h k ∙ ap (λ (b : Bool). b && same_rules (map rule_texts (drop (i + 1) one)) (map rule_texts (drop (i + 1) other))) (sym s)

  pub rules_differ : (d e : Rule) → i < length one → i < length other → false ≡ same_rule (rule_texts (get_or one i d)) (rule_texts (get_or other i e)) → same_rules Ones Others ≡ false
  rules_differ d e h k s = rules_at d e h k ∙ ap (λ (b : Bool). b && same_rules (map rule_texts (drop (i + 1) one)) (map rule_texts (drop (i + 1) other))) (sym s)

  pub rules_more : (d : Rule) → i < length one → length other ≤ i → same_rules Ones Others ≡ false
  unfolding same_rules
  rules_more d h k = ap (λ (l : List RuleTexts). same_rules l Others) (mapped_rest rule_texts one i d h) ∙ ap (λ (l : List Rule). same_rules (rule_texts (get_or one i d) ∷ map rule_texts (drop (i + 1) one)) (map rule_texts l)) (drop_all i other k)

  pub rules_fewer : length one ≤ i → i ≤ length other → (i == length other) ≡ same_rules Ones Others
  unfolding same_rules
  rules_fewer h k = left (drop i other) (length-drop i other) ∙ ap (λ (l : List Rule). same_rules (map rule_texts l) Others) (sym (drop_all i one h))
    where
      left : (l : List Rule) → length l ≡ length other - i → (i == length other) ≡ same_rules [] (map rule_texts l)
      left [] e = eq-eqb i (length other) (omega (arith, e, k))
      left (r ∷ l) e = ne_eqb i (length other) (λ z. omega (arith, e, z))

-- ---- the last rule with a pattern

flipped : (a b : List ℕ) → is_eq (text_cmp a b) ≡ is_eq (text_cmp b a)
flipped a b = ap is_eq (nat_list_cmp_total.antisymm a b) ∙ turned (text_cmp b a)

last_more : (p : List ℕ) (before : Option (List ℕ)) (rules : List RuleTexts) (r : RuleTexts) → last_from p before (rules ++ r ∷ []) ≡ cond (same p r.0) (Some r.1) (last_from p before rules)
unfolding last_from
last_more p before [] r = refl
last_more p before (q ∷ rules) r = last_more p (cond (same p q.0) (Some q.1) before) rules r

abbrev pub Lasts : Type 0
Lasts = BTreeMap (Bor (List ℕ)) (Bor (List ℕ))

abbrev at_text : Lasts → List ℕ → Option (Bor (List ℕ))
at_text m q = get_by (λ (k : Bor (List ℕ)). text_cmp q k.now) m

pub lasts_begun : (m : Lasts) → m.entries ≡ [] → IsLasts [] m
unfolding last_from
lasts_begun m e p = ap (λ (es : List (Bor (List ℕ) × Bor (List ℕ))). option_map own_text (lookup (is_at (λ (k : Bor (List ℕ)). text_cmp p k.now)) es)) e

pub lasts_next : (rules : List Rule) (i : ℕ) (d : Rule) (m n : Lasts) → i < length rules
    → ((q : List ℕ) → at_text n q ≡ cond (is_eq (text_cmp (get_or rules i d).pattern.now q)) (Some ((get_or rules i d).value)) (at_text m q))
    → IsLasts (map rule_texts (take i rules)) m → IsLasts (map rule_texts (take (i + 1) rules)) n
lasts_next rules i d m n h put so_far p =
    let r = get_or rules i d in
    ap (option_map own_text) (put p ∙ ap (λ (b : Bool). cond b (Some r.value) (at_text m p)) (flipped r.pattern.now p))
    ∙ elim (same p r.pattern.now) as (λ (b : Bool). option_map own_text (cond b (Some r.value) (at_text m p)) ≡ cond b (Some r.value.now) (last_from p None (map rule_texts (take i rules)))) [
      | true ↦ refl
      | false ↦ so_far p
    ]
    ∙ sym (last_more p None (map rule_texts (take i rules)) (rule_texts r)) ∙ ap (last_from p None) (sym (mapped_more rule_texts rules i d h))

pub kept_some : (rules : List RuleTexts) (m : Lasts) (rule : Rule) (v : Bor (List ℕ)) → IsLasts rules m → Some v ≡ at_text m rule.pattern.now → same_value (Some v.now) (Some rule.value.now) ≡ is_kept rules (rule_texts rule)
kept_some rules m rule v are e = ap (λ (o : Option (List ℕ)). same_value o (Some rule.value.now)) (ap (option_map own_text) e ∙ are rule.pattern.now)

pub kept_none : (rules : List RuleTexts) (m : Lasts) (rule : Rule) → IsLasts rules m → None ≡ at_text m rule.pattern.now → false ≡ is_kept rules (rule_texts rule)
kept_none rules m rule are e = ap (λ (o : Option (List ℕ)). same_value o (Some rule.value.now)) (ap (option_map own_text) e ∙ are rule.pattern.now)

-- ---- patterns at the places where two lists differ

module _ (one other : List Rule) (i : ℕ) where
  pub moved_one : length other ≤ i → moved (map rule_texts (drop i one)) (map rule_texts (drop i other)) ≡ map pattern_of (map rule_texts (drop i one))
  unfolding moved
  moved_one h = ap (λ (l : List Rule). moved (map rule_texts (drop i one)) (map rule_texts l)) (drop_all i other h) ∙ none (drop i one)
    where
      none : (l : List Rule) → moved (map rule_texts l) [] ≡ map pattern_of (map rule_texts l)
      none [] = refl
      none (r ∷ l) = refl

  pub moved_other : length one ≤ i → moved (map rule_texts (drop i one)) (map rule_texts (drop i other)) ≡ map pattern_of (map rule_texts (drop i other))
  unfolding moved
  moved_other h = ap (λ (l : List Rule). moved (map rule_texts l) (map rule_texts (drop i other))) (drop_all i one h)

  pub moved_next : (d e : Rule) → i < length one → i < length other → moved (map rule_texts (drop i one)) (map rule_texts (drop i other))
      ≡ differing (rule_texts (get_or one i d)) (rule_texts (get_or other i e)) ++ moved (map rule_texts (drop (i + 1) one)) (map rule_texts (drop (i + 1) other))
  unfolding moved
  moved_next d e h k =
      ap (λ (l : List RuleTexts). moved l (map rule_texts (drop i other))) (mapped_rest rule_texts one i d h)
      ∙ ap (moved (rule_texts (get_or one i d) ∷ map rule_texts (drop (i + 1) one))) (mapped_rest rule_texts other i e k)

-- ---- texts in order

put_more : (xs l : List (List ℕ)) (x : List ℕ) → put_all text_cmp (xs ++ x ∷ []) l ≡ put text_cmp x (put_all text_cmp xs l)
unfolding put_all
put_more [] l x = refl
put_more (y ∷ xs) l x = put_more xs (put text_cmp y l) x

own_put : (ks : List (Bor (List ℕ))) (k : Bor (List ℕ)) → map own_text (insert_key (λ (p q : Bor (List ℕ)). text_cmp p.now q.now) ks k) ≡ put text_cmp k.now (map own_text ks)
unfolding put
own_put [] k = refl
own_put (x ∷ ks) k =
    let again = own_put ks k in
    elim (text_cmp k.now x.now) as (λ o. map own_text (match_ordering o (k ∷ x ∷ ks) (x ∷ ks) (x ∷ insert_key (λ (p q : Bor (List ℕ)). text_cmp p.now q.now) ks k))
    ≡ match_ordering o (k.now ∷ x.now ∷ map own_text ks) (x.now ∷ map own_text ks) (x.now ∷ put text_cmp k.now (map own_text ks))) [
      | Less ↦ refl
      | Equal ↦ refl
      | Greater ↦ ap (λ (l : List (List ℕ)). x.now ∷ l) again
    ]

pub set_begun : (set : BTreeSet (Bor (List ℕ))) → set.keys ≡ [] → IsSetOf [] set
unfolding put_all
set_begun set e = ap (map own_text) e

pub set_next : (texts : List (Bor (List ℕ))) (i : ℕ) (d : Bor (List ℕ)) (m n : BTreeSet (Bor (List ℕ))) → i < length texts → n.keys ≡ insert_key (λ (p q : Bor (List ℕ)). text_cmp p.now q.now) m.keys (get_or texts i d)
    → IsSetOf (map own_text (take i texts)) m → IsSetOf (map own_text (take (i + 1) texts)) n
set_next texts i d m n h k so_far =
    ap (map own_text) k ∙ own_put m.keys (get_or texts i d) ∙ ap (put text_cmp (get_or texts i d).now) so_far
    ∙ sym (put_more (map own_text (take i texts)) [] (get_or texts i d).now) ∙ ap (in_order text_cmp) (sym (mapped_more own_text texts i d h))

module _ (whole : List (List ℕ)) where
  pub order_begun : (left keys list : List (Bor (List ℕ))) → list ≡ [] → left ≡ keys → map own_text keys ≡ whole → map own_text list ++ map own_text left ≡ whole
  order_begun left keys list none is e = ap (λ (l : List (Bor (List ℕ))). map own_text l ++ map own_text left) none ∙ ap (map own_text) is ∙ e

  pub order_next : (left next list after : List (Bor (List ℕ))) (text : Bor (List ℕ)) → left ≡ text ∷ next → after ≡ list ++ text ∷ [] → map own_text list ++ map own_text left ≡ whole → map own_text after ++ map own_text next ≡ whole
  order_next left next list after text cut pushed so_far =
      ap (λ (l : List (List ℕ)). l ++ map own_text next) (ap (map own_text) pushed ∙ map-append own_text list (text ∷ []))
      ∙ append_assoc (map own_text list) (text.now ∷ []) (map own_text next) ∙ ap (λ (l : List (Bor (List ℕ))). map own_text list ++ map own_text l) (sym cut) ∙ so_far

  pub order_done : (left list : List (Bor (List ℕ))) → left ≡ [] → map own_text list ++ map own_text left ≡ whole → map own_text list ≡ whole
  order_done left list none so_far = sym (append-nil (map own_text list)) ∙ ap (λ (l : List (Bor (List ℕ))). map own_text list ++ map own_text l) (sym none) ∙ so_far
