-- What is found of all keys.
use Rattle.std.proofs.Common.{◌≡◌, ◌∙◌, ap, sym, refl, subst, ℕ, true, false, List, [], ◌∷◌, ◌++◌, map, filter, Option, Some, None, cond, option_map, ◌⊎◌, inl, inr, ⊎_elim}
use Rattle.std.specs.Borrow.{Bor}
use Rattle.std.specs.List.{AllByRecursion}
use Rattle.std.specs.List.Sorted.{IsStrictlySortedBy}
use Rattle.std.specs.Map.{keys_of, lookup}
use Rattle.std.specs.BTreeMap.{is_at}
use Rattle.std.specs.Ordering.{is_eq, ordering_reverse}
use Rattle.std.specs.declared.cmp.Ordering.TheVariants.{Less}
use Rattle.std.proofs.lemmas.Cmp.{nat_list_cmp_total, tied_itself}
use Rattle.hwdb_spec.specs.Assignment.{in_order, text_cmp}
use Rattle.hwdb_spec.specs.Folders.{same}
use Rattle.hwdb_spec.specs.Lemmas.Orders.{equal_of, equal_text}
use Rattle.hwdb_text.specs.Lemmas.Members.{Holds, in_order_from, in_order_rises, one_list}
use Rattle.hwdb_spec_commands.specs.SamplesFound.{Found, KeyedRule, found_at, key_in, rules_of, samples_by_key, samples_of}
use Rattle.hwdb_samples.specs.Views.{key_shown, property_texts, rule_texts}
use Rattle.hwdb_samples.specs.Groups.{AreAllFound, AreFound, Both, IsFound, both_at, both_in, is_of, key_order, rule_in, rules_at, some_both}
use Rattle.hwdb_samples.specs.declared.rules.Rule.{Rule}
use Rattle.hwdb_samples.specs.declared.groups.Groups.{Groups}
use Rattle.hwdb_samples.specs.declared.groups.KeySamples.{KeySamples}
use Rattle.hwdb_samples.specs.declared.groups.Property.{Property}
use Rattle.hwdb_samples.specs.declared.groups.Sides.{Sides}
use Rattle.hwdb_samples.proofs.KeyLemmas.{ordered_holds}

abbrev Entries : Type 0
Entries = List (Bor (List ℕ) × Sides)

abbrev sides_at : List ℕ → Entries → Option Sides
sides_at q es = lookup (is_at (λ (k : Bor (List ℕ)). text_cmp q k.now)) es

abbrev entry_key : Bor (List ℕ) × Sides → List ℕ
entry_key e = e.0.now

abbrev key_of : Property → List ℕ
key_of p = p.key.now

abbrev key_found : KeySamples → List ℕ
key_found s = s.key.now

abbrev keys_of_both : (old new : List Property) → List (List ℕ)
keys_of_both old new = in_order text_cmp (map key_of old ++ map key_of new)

abbrev IsFoundAt : (old new : List Property) → KeySamples → Type 0
IsFoundAt old new s = IsFound (rules_at s.key.now old) (rules_at s.key.now new) s.found

-- each key has the rules of both sides
abbrev pub AreGrouped : Groups → (old new : List Property) → Type 0
AreGrouped m old new = (q : List ℕ) → both_at m q ≡ some_both (rules_at q old, rules_at q new)

-- ---- keys

some_key : (q : List ℕ) (es : Entries) (s : Sides) → sides_at q es ≡ Some s → Holds (map entry_key es) q
some_key q [] s e = cc
some_key q (f ∷ es) s e =
    let again : sides_at q es ≡ Some s → Holds (map entry_key es) q = some_key q es s in
    elim (is_eq (text_cmp q f.0.now)) as (λ b. is_eq (text_cmp q f.0.now) ≡ b → cond b (Some f.1) (sides_at q es) ≡ Some s → Holds (map entry_key (f ∷ es)) q) [
      | true ↦ λ h k. inl (equal_text q f.0.now (equal_of _ h))
      | false ↦ λ h k. inr (again k)
    ] refl e

no_key : (q : List ℕ) (es : Entries) → sides_at q es ≡ None → Holds (map entry_key es) q → ⊥
no_key q [] e h = h
no_key q (f ∷ es) e h =
    let again : sides_at q es ≡ None → Holds (map entry_key es) q → ⊥ = no_key q es in
    elim (is_eq (text_cmp q f.0.now)) as (λ b. is_eq (text_cmp q f.0.now) ≡ b → cond b (Some f.1) (sides_at q es) ≡ None → ⊥) [
      | true ↦ λ d k. absurd (cc)
      | false ↦ λ d k. ⊎_elim {C = ⊥} (λ own. absurd (let w : true ≡ false = sym (ap is_eq (tied_itself nat_list_cmp_total q)) ∙ ap (λ t. is_eq (text_cmp q t)) own ∙ d in cc)) (again k) h
    ] refl e

rules_key : (q : List ℕ) (list : List Property) (r : Rule) (rs : List Rule) → rules_at q list ≡ r ∷ rs → Holds (map key_of list) q
rules_key q [] r rs e = cc
rules_key q (p ∷ list) r rs e =
    let again : rules_at q list ≡ r ∷ rs → Holds (map key_of list) q = rules_key q list r rs in
    elim (is_of q p) as (λ b. is_of q p ≡ b → map rule_in (cond b (p ∷ filter (is_of q) list) (filter (is_of q) list)) ≡ r ∷ rs → Holds (map key_of (p ∷ list)) q) [
      | true ↦ λ h k. inl (equal_text q p.key.now (equal_of _ h))
      | false ↦ λ h k. inr (again k)
    ] refl e

no_rules : (q : List ℕ) (list : List Property) → rules_at q list ≡ [] → Holds (map key_of list) q → ⊥
no_rules q [] e h = h
no_rules q (p ∷ list) e h =
    let again : rules_at q list ≡ [] → Holds (map key_of list) q → ⊥ = no_rules q list in
    elim (is_of q p) as (λ b. is_of q p ≡ b → map rule_in (cond b (p ∷ filter (is_of q) list) (filter (is_of q) list)) ≡ [] → ⊥) [
      | true ↦ λ d k. absurd (cc)
      | false ↦ λ d k. ⊎_elim {C = ⊥} (λ own. absurd (let w : true ≡ false = sym (ap is_eq (tied_itself nat_list_cmp_total q)) ∙ ap (λ t. is_eq (text_cmp q t)) own ∙ d in cc)) (again k) h
    ] refl e

-- a member of two lists
of_either : (xs ys : List (List ℕ)) (q : List ℕ) → Holds (xs ++ ys) q → Holds xs q ⊎ Holds ys q
of_either [] ys q h = inr h
of_either (x ∷ xs) ys q h = ⊎_elim {C = Holds (x ∷ xs) q ⊎ Holds ys q} (λ a. inl (inl a))
    (λ r. ⊎_elim {C = Holds (x ∷ xs) q ⊎ Holds ys q} (λ a. inl (inr a)) (λ b. inr b) (of_either xs ys q r)) h

of_first : (xs ys : List (List ℕ)) (q : List ℕ) → Holds xs q → Holds (xs ++ ys) q
of_first [] ys q h = absurd h
of_first (x ∷ xs) ys q h = ⊎_elim {C = Holds (x ∷ xs ++ ys) q} (λ a. inl a) (λ r. inr (of_first xs ys q r)) h

of_second : (xs ys : List (List ℕ)) (q : List ℕ) → Holds ys q → Holds (xs ++ ys) q
of_second [] ys q h = h
of_second (x ∷ xs) ys q h = inr (of_second xs ys q h)

none_both : (both : Both) → some_both both ≡ None → (both.0 ≡ []) × (both.1 ≡ [])
none_both ([], []) e = (refl, refl)
none_both ([], r ∷ new) e = absurd (cc)
none_both (r ∷ old, new) e = absurd (cc)

is_both : (both x : Both) → Some x ≡ some_both both → x ≡ both
is_both ([], []) x e = absurd (cc)
is_both ([], r ∷ new) x e = cc
is_both (r ∷ old, new) x e = cc

module _ (m : Groups) (old new : List Property) (grouped : AreGrouped m old new) where
  no_sides : (q : List ℕ) → sides_at q m.sides.entries ≡ None → (rules_at q old ≡ []) × (rules_at q new ≡ [])
  no_sides q e = none_both (rules_at q old, rules_at q new) (sym (grouped q) ∙ ap (option_map both_in) e)

  key_is_there : (q : List ℕ) → Holds (map key_of old ++ map key_of new) q → Holds (map entry_key m.sides.entries) q
  key_is_there q h =
      elim (sides_at q m.sides.entries) as (λ o. sides_at q m.sides.entries ≡ o → Holds (map entry_key m.sides.entries) q) [
        | Some s ↦ λ e. some_key q m.sides.entries s e
        | None ↦ λ e.
            let none = no_sides q e in
            absurd (⊎_elim {C = ⊥} (no_rules q old none.0) (no_rules q new none.1) (of_either (map key_of old) (map key_of new) q h))
      ] refl

  key_is_given : (q : List ℕ) → Holds (map entry_key m.sides.entries) q → Holds (map key_of old ++ map key_of new) q
  key_is_given q h =
      elim (rules_at q old) as (λ l. rules_at q old ≡ l → Holds (map key_of old ++ map key_of new) q) [
        | r ∷ rs ↦ λ e. of_first (map key_of old) (map key_of new) q (rules_key q old r rs e)
        | [] ↦ λ e. elim (rules_at q new) as (λ l. rules_at q new ≡ l → Holds (map key_of old ++ map key_of new) q) [
          | r ∷ rs ↦ λ d. of_second (map key_of old) (map key_of new) q (rules_key q new r rs d)
          | [] ↦ λ d.
              let pair : (rules_at q old, rules_at q new) ≡ ([], []) = λ i. (e i, d i) in
              absurd (no_key q m.sides.entries (nothing (sides_at q m.sides.entries) (grouped q ∙ ap some_both pair)) h)
        ] refl
      ] refl
    where
      nothing : (o : Option Sides) → option_map both_in o ≡ None → o ≡ None
      nothing None e = refl
      nothing (Some s) e = absurd (cc)

  keys_rise : (es : Entries) → IsStrictlySortedBy key_order (keys_of es) → IsStrictlySortedBy text_cmp (map entry_key es)
  unfolding IsStrictlySortedBy
  keys_rise [] up = tt
  keys_rise (e ∷ es) up = (above es up.0, keys_rise es up.1)
    where
      above : (es : Entries) → AllByRecursion (λ (k : Bor (List ℕ)). text_cmp e.0.now k.now ≡ Less) (keys_of es) → AllByRecursion (λ k. text_cmp e.0.now k ≡ Less) (map entry_key es)
      above [] all = tt
      above (f ∷ es) all = (all.0, above es all.1)

  entry_keys_are : IsStrictlySortedBy key_order (keys_of m.sides.entries) → map entry_key m.sides.entries ≡ keys_of_both old new
  entry_keys_are up =
      let given = map key_of old ++ map key_of new in
      one_list text_cmp nat_list_cmp_total _ _ (keys_rise m.sides.entries up) (in_order_rises text_cmp nat_list_cmp_total given)
      (λ q h. ordered_holds given q (key_is_given q h))
      (λ q h. key_is_there q (in_order_from text_cmp nat_list_cmp_total given q h))

  found_keys : (es : Entries) (list : List KeySamples) → AreFound es list → map key_found list ≡ map entry_key es
  found_keys [] [] are = refl
  found_keys [] (s ∷ list) are = absurd are
  found_keys (e ∷ es) [] are = absurd are
  found_keys (e ∷ es) (s ∷ list) are = λ i. are.0 i ∷ found_keys es list are.2 i

  keys_are : (list : List KeySamples) → AreAllFound m list → map key_found list ≡ keys_of_both old new
  keys_are list all = found_keys m.sides.entries list all.found ∙ entry_keys_are all.ascends

  -- ---- what is found of each

  -- entries are what the whole has at their keys
  abbrev AtOwn : (whole es : Entries) → Type 0
  AtOwn whole es = AllByRecursion (λ (e : Bor (List ℕ) × Sides). sides_at e.0.now whole ≡ Some e.1) es

  own_before : (e : Bor (List ℕ) × Sides) (whole es : Entries) → AllByRecursion (λ (k : Bor (List ℕ)). text_cmp e.0.now k.now ≡ Less) (keys_of es) → AtOwn whole es → AtOwn (e ∷ whole) es
  own_before e whole [] all own = tt
  own_before e whole (f ∷ es) all own =
      (ap (λ o. cond (is_eq o) (Some e.1) (sides_at f.0.now whole)) (nat_list_cmp_total.antisymm f.0.now e.0.now ∙ ap ordering_reverse all.0) ∙ own.0, own_before e whole es all.1 own.1)

  all_own : (es : Entries) → IsStrictlySortedBy key_order (keys_of es) → AtOwn es es
  unfolding IsStrictlySortedBy
  all_own [] up = tt
  all_own (e ∷ es) up = (ap (λ o. cond (is_eq o) (Some e.1) (sides_at e.0.now es)) (tied_itself nat_list_cmp_total e.0.now), own_before e es es up.0 (all_own es up.1))

  one_found : (e : Bor (List ℕ) × Sides) (s : KeySamples) → sides_at e.0.now m.sides.entries ≡ Some e.1 → s.key.now ≡ e.0.now → IsFound e.1.before.items e.1.after.items s.found → IsFoundAt old new s
  one_found e s own key found =
      let both : both_in e.1 ≡ (rules_at e.0.now old, rules_at e.0.now new) =
      is_both (rules_at e.0.now old, rules_at e.0.now new) (both_in e.1) (sym (ap (option_map both_in) own) ∙ grouped e.0.now) in
      subst (λ (q : List ℕ). IsFound (rules_at q old) (rules_at q new) s.found) (sym key) (subst (λ (b : Both). IsFound b.0 b.1 s.found) both found)

  each_found : (es : Entries) (list : List KeySamples) → AtOwn m.sides.entries es → AreFound es list → AllByRecursion (IsFoundAt old new) list
  each_found [] [] own are = tt
  each_found [] (s ∷ list) own are = absurd are
  each_found (e ∷ es) [] own are = absurd are
  each_found (e ∷ es) (s ∷ list) own are = (one_found e s own.0 are.0 are.1, each_found es list own.1 are.2)

  each_is_found : (list : List KeySamples) → AreAllFound m list → AllByRecursion (IsFoundAt old new) list
  each_is_found list all = each_found m.sides.entries list (all_own m.sides.entries all.ascends) all.found

  -- ---- the equation

  keyed : (key : List ℕ) (list : List Property) → map rule_texts (rules_at key list) ≡ rules_of key (map property_texts list)
  keyed key [] = refl
  keyed key (p ∷ list) =
      let again : map rule_texts (rules_at key list) ≡ rules_of key (map property_texts list) = keyed key list in
      elim (is_of key p) as (λ b. map rule_texts (map rule_in (cond b (p ∷ filter (is_of key) list) (filter (is_of key) list)))
      ≡ map (λ (q : KeyedRule). q.1) (cond b (property_texts p ∷ filter (λ (q : KeyedRule). same key q.0) (map property_texts list)) (filter (λ (q : KeyedRule). same key q.0) (map property_texts list)))) [
        | true ↦ ap (λ l. rule_texts p.rule ∷ l) again
        | false ↦ again
      ]

  shown_at : (s : KeySamples) → IsFoundAt old new s → key_shown s ≡ found_at (map property_texts old) (map property_texts new) s.key.now
  shown_at s is =
      let found = is ∙ ap (λ l. samples_of l (map rule_texts (rules_at s.key.now new))) (keyed s.key.now old) ∙ ap (samples_of (rules_of s.key.now (map property_texts old))) (keyed s.key.now new) in
      ap (λ (f : Found). (s.key.now, f)) found

  all_shown : (list : List KeySamples) → AllByRecursion (IsFoundAt old new) list → map key_shown list ≡ map (found_at (map property_texts old) (map property_texts new)) (map key_found list)
  all_shown [] all = refl
  all_shown (s ∷ list) all = λ i. shown_at s all.0 i ∷ all_shown list all.1 i

  key_texts : (list : List Property) → map key_of list ≡ map key_in (map property_texts list)
  key_texts [] = refl
  key_texts (p ∷ list) = ap (λ l. p.key.now ∷ l) (key_texts list)

  pub all_found : (list : List KeySamples) → AreAllFound m list → map key_shown list ≡ samples_by_key (map property_texts old) (map property_texts new)
  all_found list all =
      all_shown list (each_is_found list all)
      ∙ ap (map (found_at (map property_texts old) (map property_texts new)))
      (keys_are list all ∙ ap (λ ks. in_order text_cmp (ks ++ map key_of new)) (key_texts old) ∙ ap (λ ks. in_order text_cmp (map key_in (map property_texts old) ++ ks)) (key_texts new))
