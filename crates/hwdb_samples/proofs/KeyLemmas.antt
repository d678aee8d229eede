-- What a device gets of all keys, from the rules of each.
use Rattle.std.proofs.Common.{◌≡◌, ◌∙◌, ap, sym, refl, ℕ, Bool, true, false, List, [], ◌∷◌, ◌++◌, map, reverse, filter, Option, Some, None, cond, option_map, inl, inr, ⊎_elim}
use Rattle.std.specs.Prelude.{find}
use Rattle.std.specs.List.{AllByRecursion}
use Rattle.std.specs.List.Sorted.{IsStrictlySortedBy}
use Rattle.std.specs.declared.cmp.Ordering.TheVariants.{Less, Equal, Greater}
use Rattle.std.specs.Ordering.{match_ordering, is_eq}
use Rattle.std.proofs.lemmas.Cmp.{nat_list_cmp_total, tied_itself}
use Rattle.std.proofs.lemmas.List.{reverse-append}
use Rattle.hwdb_spec.specs.Assignment.{Assignment, assignment_cmp, position_cmp, in_order, put, put_all, text_cmp}
use Rattle.hwdb_spec.specs.Answers.{effective_of, has_key, is_match, is_wanted, key_of_answer, last_assignments, last_matching, last_of_each, last_value, value_or_none}
use Rattle.hwdb_spec.specs.Lemmas.Orders.{equal_of, equal_text, then_equal}
use Rattle.hwdb_spec.specs.Lemmas.Places.{all_behind, assignment_total}
use Rattle.hwdb_text.specs.Lemmas.Members.{Holds, in_order_from, in_order_rises, one_list, put_all_holds, put_ordered}
use Rattle.hwdb_spec_commands.specs.SampleRules.{RuleTexts, after_rules, given}
use Rattle.hwdb_samples.specs.Keys.{AreRules, RulesGiveValues, SameRulesGiveAll, in_turn, value_at}
use Rattle.hwdb_spec_commands.specs.SampleDevices.{assigned_texts}

-- ---- a test and an order

-- members that tie pass a test alike
abbrev Alike : (Assignment → Bool) → Type 0
Alike p = (x y : Assignment) → assignment_cmp x y ≡ Equal → p x ≡ p y

-- what is above a member is above what a test keeps
kept_above : (p : Assignment → Bool) (P : Assignment → Type 0) (ys : List Assignment) → AllByRecursion P ys → AllByRecursion P (filter p ys)
kept_above p P [] all = tt
kept_above p P (y ∷ ys) all =
    let again = kept_above p P ys all.1 in
    elim (p y) as (λ b. AllByRecursion P (cond b (y ∷ filter p ys) (filter p ys))) [
      | true ↦ (all.0, again)
      | false ↦ again
    ]

-- a member below all others comes first
put_first : (x : Assignment) (ys : List Assignment) → AllByRecursion (λ y. assignment_cmp x y ≡ Less) ys → put assignment_cmp x ys ≡ x ∷ ys
unfolding put
put_first x [] all = refl
put_first x (y ∷ ys) all = ap (λ o. match_ordering o (x ∷ y ∷ ys) (y ∷ ys) (y ∷ put assignment_cmp x ys)) all.0

above_both : (x y : Assignment) (ys : List Assignment) → assignment_cmp x y ≡ Less → AllByRecursion (λ z. assignment_cmp y z ≡ Less) ys → AllByRecursion (λ z. assignment_cmp x z ≡ Less) ys
above_both x y [] e all = tt
above_both x y (z ∷ zs) e all = (assignment_total.trans x y z e all.0, above_both x y zs e all.1)

module _ (p : Assignment → Bool) (alike : Alike p) where
  -- a test after a member is put in its place, and before
  kept_put : (x : Assignment) (ys : List Assignment) → IsStrictlySortedBy assignment_cmp ys → filter p (put assignment_cmp x ys) ≡ cond (p x) (put assignment_cmp x (filter p ys)) (filter p ys)
  unfolding put IsStrictlySortedBy
  kept_put x [] up = refl
  kept_put x (y ∷ ys) up =
      let again : filter p (put assignment_cmp x ys) ≡ cond (p x) (put assignment_cmp x (filter p ys)) (filter p ys) = kept_put x ys up.1 in
      let least = up.0 in
      let rest = filter p ys in
      let all = filter p (y ∷ ys) in
      elim (assignment_cmp x y) as (λ o. assignment_cmp x y ≡ o → filter p (match_ordering o (x ∷ y ∷ ys) (y ∷ ys) (y ∷ put assignment_cmp x ys)) ≡ cond (p x) (put assignment_cmp x all) all) [
        | Less ↦ λ e. ap (λ l. cond (p x) l all) (sym (put_first x all (kept_above p (λ z. assignment_cmp x z ≡ Less) (y ∷ ys) (e, above_both x y ys e least))))
        | Equal ↦ λ e.
            elim (p y) as (λ b. cond b (y ∷ rest) rest ≡ cond b (put assignment_cmp x (cond b (y ∷ rest) rest)) (cond b (y ∷ rest) rest)) [
              | true ↦ sym (ap (λ o. match_ordering o (x ∷ y ∷ rest) (y ∷ rest) (y ∷ put assignment_cmp x rest)) e)
              | false ↦ refl
            ]
            ∙ ap (λ b. cond b (put assignment_cmp x all) all) (sym (alike x y e))
        | Greater ↦ λ e.
            ap (λ l. cond (p y) (y ∷ l) l) again
            ∙ elim (p y) as (λ b. cond b (y ∷ cond (p x) (put assignment_cmp x rest) rest) (cond (p x) (put assignment_cmp x rest) rest)
            ≡ cond (p x) (put assignment_cmp x (cond b (y ∷ rest) rest)) (cond b (y ∷ rest) rest)) [
              | true ↦ elim (p x) as (λ b. y ∷ cond b (put assignment_cmp x rest) rest ≡ cond b (put assignment_cmp x (y ∷ rest)) (y ∷ rest)) [
                | true ↦ sym (ap (λ o. match_ordering o (x ∷ y ∷ rest) (y ∷ rest) (y ∷ put assignment_cmp x rest)) e)
                | false ↦ refl
              ]
              | false ↦ refl
            ]
      ] refl

  kept_put_all : (xs l : List Assignment) → IsStrictlySortedBy assignment_cmp l → filter p (put_all assignment_cmp xs l) ≡ put_all assignment_cmp (filter p xs) (filter p l)
  unfolding put_all
  kept_put_all [] l up = refl
  kept_put_all (x ∷ xs) l up =
      kept_put_all xs (put assignment_cmp x l) (put_ordered assignment_cmp assignment_total x l up)
      ∙ ap (put_all assignment_cmp (filter p xs)) (kept_put x l up)
      ∙ elim (p x) as (λ b. put_all assignment_cmp (filter p xs) (cond b (put assignment_cmp x (filter p l)) (filter p l)) ≡ put_all assignment_cmp (cond b (x ∷ filter p xs) (filter p xs)) (filter p l)) [
        | true ↦ refl
        | false ↦ refl
      ]

none_ascends : let none : List Assignment = [] in IsStrictlySortedBy assignment_cmp none
unfolding IsStrictlySortedBy
none_ascends = tt

same_pattern : (x y : Assignment) → assignment_cmp x y ≡ Equal → x.position.pattern ≡ y.position.pattern
unfolding assignment_cmp position_cmp
same_pattern x y h =
    let a = then_equal _ _ h in
    let b = then_equal _ _ a.1 in
    let c = then_equal _ _ b.1 in
    equal_text x.position.pattern y.position.pattern c.0

-- what a device is given are those in turn whose pattern matches
answers_in_turn : (device : List ℕ) (all : List Assignment) → last_assignments device None all ≡ filter (is_wanted device) (in_turn all)
unfolding last_assignments last_matching
answers_in_turn device all =
    all_behind (in_order assignment_cmp (filter (is_wanted device) (last_of_each all)))
    ∙ sym (kept_put_all (is_wanted device) (λ x y e. ap (is_match device) (same_pattern x y e)) (last_of_each all) [] none_ascends)

-- ---- the last one with a key

abbrev first_some : {A : Type 0} → Option A → Option A → Option A
first_some None other = other
first_some (Some s) other = Some s

abbrev one : List ℕ → Assignment → Option Assignment
one key f = cond (has_key key f) (Some f) None

-- the last of some answers with a key, from the first on
last_at : List ℕ → List Assignment → Option Assignment
last_at key [] = None
last_at key (f ∷ more) = first_some (last_at key more) (one key f)

find_push : (key : List ℕ) (fs : List Assignment) (f : Assignment) → find (has_key key) (fs ++ f ∷ []) ≡ first_some (find (has_key key) fs) (one key f)
find_push key [] f = refl
find_push key (g ∷ fs) f =
    let again = find_push key fs f in
    elim (has_key key g) as (λ b. cond b (Some g) (find (has_key key) (fs ++ f ∷ [])) ≡ first_some (cond b (Some g) (find (has_key key) fs)) (one key f)) [
      | true ↦ refl
      | false ↦ again
    ]

found_is_last : (key : List ℕ) (l : List Assignment) → find (has_key key) (reverse l) ≡ last_at key l
unfolding last_at
found_is_last key [] = refl
found_is_last key (f ∷ more) =
    ap (find (has_key key)) (reverse-append (f ∷ []) more) ∙ find_push key (reverse more) f ∙ ap (λ o. first_some o (one key f)) (found_is_last key more)

abbrev value_of : Assignment → List ℕ
value_of f = f.value

-- what some answers give a key
abbrev gift : List ℕ → List Assignment → Option (List ℕ)
gift key l = option_map value_of (last_at key l)

abbrev or_nothing : Option (List ℕ) → List ℕ
or_nothing None = []
or_nothing (Some text) = text

last_value_is : (key : List ℕ) (l : List Assignment) → last_value l key ≡ or_nothing (gift key l)
unfolding last_value
last_value_is key l = ap value_or_none (found_is_last key l) ∙ value_is (last_at key l)
  where
    value_is : (o : Option Assignment) → value_or_none o ≡ or_nothing (option_map value_of o)
    value_is None = refl
    value_is (Some f) = refl

-- its key is one of the answers' keys
some_held : (key : List ℕ) (l : List Assignment) (z : Assignment) → last_at key l ≡ Some z → Holds (map key_of_answer l) key
unfolding last_at
some_held key [] z e = cc
some_held key (f ∷ more) z e =
    let again : (y : Assignment) → last_at key more ≡ Some y → Holds (map key_of_answer more) key = some_held key more in
    elim (last_at key more) as (λ o. last_at key more ≡ o → first_some o (one key f) ≡ Some z → Holds (map key_of_answer (f ∷ more)) key) [
      | Some y ↦ λ d k. inr (again y d)
      | None ↦ λ d k. elim (has_key key f) as (λ b. has_key key f ≡ b → cond b (Some f) None ≡ Some z → Holds (map key_of_answer (f ∷ more)) key) [
        | true ↦ λ h q. inl (equal_text key f.position.key (equal_of _ h))
        | false ↦ λ h q. cc
      ] refl k
    ] refl e

has_own : (key : List ℕ) (f : Assignment) → key ≡ f.position.key → has_key key f ≡ true
has_own key f e = ap (λ k. is_eq (text_cmp key k)) (sym e) ∙ ap is_eq (tied_itself nat_list_cmp_total key)

none_held : (key : List ℕ) (l : List Assignment) → last_at key l ≡ None → Holds (map key_of_answer l) key → ⊥
unfolding last_at
none_held key [] e h = h
none_held key (f ∷ more) e h =
    let again : last_at key more ≡ None → Holds (map key_of_answer more) key → ⊥ = none_held key more in
    elim (last_at key more) as (λ o. last_at key more ≡ o → first_some o (one key f) ≡ None → ⊥) [
      | Some y ↦ λ d k. absurd (cc)
      | None ↦ λ d k. ⊎_elim {C = ⊥} (λ own. absurd (let w : Some f ≡ None = sym (ap (λ b. cond b (Some f) None) (has_own key f own)) ∙ k in cc)) (λ r. again d r) h
    ] refl e

-- ---- keys in order

any_same : (x y : List ℕ) → Unit {0} → Unit {0} → text_cmp x y ≡ Equal → x ≡ y
any_same x y a b e = equal_text x y e

pub ordered_holds : (keys : List (List ℕ)) (k : List ℕ) → Holds keys k → Holds (in_order text_cmp keys) k
ordered_holds keys k h = put_all_holds text_cmp nat_list_cmp_total (λ _. Unit {0}) any_same keys [] (λ u m. tt) (λ u m. tt) k (inl h)

listed_at : (g : List ℕ → List ℕ) (keys : List (List ℕ)) (q : List ℕ) → Holds keys q → value_at q (map (λ key. (key, g key)) keys) ≡ Some (g q)
listed_at g [] q h = absurd h
listed_at g (k ∷ keys) q h =
    let again : Holds keys q → value_at q (map (λ key. (key, g key)) keys) ≡ Some (g q) = listed_at g keys q in
    elim (is_eq (text_cmp q k)) as (λ b. is_eq (text_cmp q k) ≡ b → cond b (Some (g k)) (value_at q (map (λ key. (key, g key)) keys)) ≡ Some (g q)) [
      | true ↦ λ e. ap (λ t. Some (g t)) (sym (equal_text q k (equal_of _ e)))
      | false ↦ λ e. ⊎_elim {C = value_at q (map (λ key. (key, g key)) keys) ≡ Some (g q)}
          (λ own. absurd (let w : true ≡ false = sym (ap is_eq (tied_itself nat_list_cmp_total q)) ∙ ap (λ t. is_eq (text_cmp q t)) own ∙ e in cc)) again h
    ] refl

listed_none : (g : List ℕ → List ℕ) (keys : List (List ℕ)) (q : List ℕ) → (Holds keys q → ⊥) → value_at q (map (λ key. (key, g key)) keys) ≡ None
listed_none g [] q n = refl
listed_none g (k ∷ keys) q n =
    let again : value_at q (map (λ key. (key, g key)) keys) ≡ None = listed_none g keys q (λ h. n (inr h)) in
    elim (is_eq (text_cmp q k)) as (λ b. is_eq (text_cmp q k) ≡ b → cond b (Some (g k)) (value_at q (map (λ key. (key, g key)) keys)) ≡ None) [
      | true ↦ λ e. absurd (n (inl (equal_text q k (equal_of _ e))))
      | false ↦ λ e. again
    ] refl

-- the value of a key is that of the last answer with it
effective_at : (q : List ℕ) (l : List Assignment) → value_at q (effective_of l) ≡ gift q l
unfolding effective_of
effective_at q l =
    let keys = map key_of_answer l in
    elim (last_at q l) as (λ o. last_at q l ≡ o → value_at q (map (λ key. (key, last_value l key)) (in_order text_cmp keys)) ≡ option_map value_of o) [
      | Some z ↦ λ e. listed_at (last_value l) (in_order text_cmp keys) q (ordered_holds keys q (some_held q l z e)) ∙ ap Some (last_value_is q l ∙ ap (λ o. or_nothing (option_map value_of o)) e)
      | None ↦ λ e. listed_none (last_value l) (in_order text_cmp keys) q (λ h. none_held q l e (in_order_from text_cmp nat_list_cmp_total keys q h))
    ] refl

held_alike : (old new : List Assignment) (k : List ℕ) → gift k old ≡ gift k new → Holds (map key_of_answer old) k → Holds (map key_of_answer new) k
held_alike old new k same h =
    elim (last_at k new) as (λ o. last_at k new ≡ o → Holds (map key_of_answer new) k) [
      | Some z ↦ λ e. some_held k new z e
      | None ↦ λ e. absurd (none_held k old (nothing (last_at k old) (same ∙ ap (option_map value_of) e)) h)
    ] refl
  where
    nothing : (o : Option Assignment) → option_map value_of o ≡ None → o ≡ None
    nothing None e = refl
    nothing (Some f) e = absurd (cc)

keys_alike : (old new : List Assignment) → ((k : List ℕ) → gift k old ≡ gift k new) → in_order text_cmp (map key_of_answer old) ≡ in_order text_cmp (map key_of_answer new)
keys_alike old new same =
    one_list text_cmp nat_list_cmp_total _ _
    (in_order_rises text_cmp nat_list_cmp_total (map key_of_answer old)) (in_order_rises text_cmp nat_list_cmp_total (map key_of_answer new))
    (λ k h. ordered_holds (map key_of_answer new) k (held_alike old new k (same k) (in_order_from text_cmp nat_list_cmp_total (map key_of_answer old) k h)))
    (λ k h. ordered_holds (map key_of_answer old) k (held_alike new old k (sym (same k)) (in_order_from text_cmp nat_list_cmp_total (map key_of_answer new) k h)))

effective_alike : (old new : List Assignment) → ((k : List ℕ) → gift k old ≡ gift k new) → effective_of old ≡ effective_of new
unfolding effective_of
effective_alike old new same =
    ap (λ (keys : List (List ℕ)). map (λ key. (key, last_value old key)) keys) (keys_alike old new same)
    ∙ ap (λ (g : List ℕ → List ℕ). map (λ key. (key, g key)) (in_order text_cmp (map key_of_answer new))) values
  where
    value_alike : (k : List ℕ) → last_value old k ≡ last_value new k
    value_alike k = last_value_is k old ∙ ap or_nothing (same k) ∙ sym (last_value_is k new)

    values : last_value old ≡ last_value new
    values = λ i k. value_alike k i

-- ---- the rules of a key

-- what a device has of a key after some answers
value_after : List ℕ → Option (List ℕ) → List Assignment → Option (List ℕ)
value_after key before [] = before
value_after key before (f ∷ more) = value_after key (cond (has_key key f) (Some f.value) before) more

wanted_texts : (device key : List ℕ) (before : Option (List ℕ)) (xs : List Assignment)
    → after_rules device before (map assigned_texts (filter (has_key key) xs)) ≡ value_after key before (filter (is_wanted device) xs)
unfolding after_rules value_after
wanted_texts device key before [] = refl
wanted_texts device key before (x ∷ xs) =
    let again : (b : Option (List ℕ)) → after_rules device b (map assigned_texts (filter (has_key key) xs)) ≡ value_after key b (filter (is_wanted device) xs) = λ b. wanted_texts device key b xs in
    elim (has_key key x) as (λ h. has_key key x ≡ h
    → after_rules device before (map assigned_texts (cond h (x ∷ filter (has_key key) xs) (filter (has_key key) xs))) ≡ value_after key before (cond (is_wanted device x) (x ∷ filter (is_wanted device) xs) (filter (is_wanted device) xs))) [
      | true ↦ λ h. elim (is_wanted device x) as (λ w. is_wanted device x ≡ w
          → after_rules device (cond w (Some x.value) before) (map assigned_texts (filter (has_key key) xs)) ≡ value_after key before (cond w (x ∷ filter (is_wanted device) xs) (filter (is_wanted device) xs))) [
            | true ↦ λ w. again (Some x.value) ∙ ap (λ b. value_after key (cond b (Some x.value) before) (filter (is_wanted device) xs)) (sym h)
            | false ↦ λ w. again before
          ] refl
      | false ↦ λ h. elim (is_wanted device x) as (λ w. is_wanted device x ≡ w
          → after_rules device before (map assigned_texts (filter (has_key key) xs)) ≡ value_after key before (cond w (x ∷ filter (is_wanted device) xs) (filter (is_wanted device) xs))) [
            | true ↦ λ w. again before ∙ ap (λ b. value_after key (cond b (Some x.value) before) (filter (is_wanted device) xs)) (sym h)
            | false ↦ λ w. again before
          ] refl
    ] refl

after_is_gift : (key : List ℕ) (before : Option (List ℕ)) (l : List Assignment) → value_after key before l ≡ first_some (gift key l) before
unfolding value_after last_at
after_is_gift key before [] = refl
after_is_gift key before (f ∷ more) =
    after_is_gift key (cond (has_key key f) (Some f.value) before) more
    ∙ elim (last_at key more) as (λ o. first_some (option_map value_of o) (cond (has_key key f) (Some f.value) before) ≡ first_some (option_map value_of (first_some o (one key f))) before) [
      | Some z ↦ refl
      | None ↦ elim (has_key key f) as (λ b. cond b (Some f.value) before ≡ first_some (option_map value_of (cond b (Some f) None)) before) [ true ↦ refl | false ↦ refl ]
    ]

first_or_none : {A : Type 0} (o : Option A) → first_some o None ≡ o
first_or_none None = refl
first_or_none (Some a) = refl

rules_gift : (device key : List ℕ) (all : List Assignment) (rules : List RuleTexts) → AreRules key all rules → given device rules ≡ gift key (last_assignments device None all)
rules_gift device key all rules are =
    ap (after_rules device None) are ∙ wanted_texts device key None (in_turn all)
    ∙ ap (value_after key None) (sym (answers_in_turn device all))
    ∙ after_is_gift key None (last_assignments device None all) ∙ first_or_none (gift key (last_assignments device None all))

pub rules_give_values : RulesGiveValues
rules_give_values key all rules are device = effective_at key (last_assignments device None all) ∙ sym (rules_gift device key all rules are)

pub same_rules_give_all : SameRulesGiveAll
same_rules_give_all device old new same =
    effective_alike (last_assignments device None old) (last_assignments device None new) (λ key.
    let before = map assigned_texts (filter (has_key key) (in_turn old)) in
    let after = map assigned_texts (filter (has_key key) (in_turn new)) in
    sym (rules_gift device key old before refl) ∙ same key before after refl refl ∙ rules_gift device key new after refl)
