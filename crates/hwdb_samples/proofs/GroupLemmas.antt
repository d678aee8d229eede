-- Rules of two sides by key, as they are added one after another.
use Rattle.std.proofs.Common.{◌≡◌, ◌∙◌, ap, sym, refl, subst, ℕ, zero, suc, ◌+◌, ◌<◌, ◌≤◌, true, false, List, [], ◌∷◌, ◌++◌, map, filter, take, length, get_or, Some, cond, option_map, append_assoc, arith, take_all}
use Rattle.std.specs.Borrow.{Bor}
use Rattle.std.specs.BTreeMap.{get_by, is_at}
use Rattle.std.specs.Map.{lookup}
use Rattle.std.specs.Ordering.{is_eq}
use Rattle.std.proofs.lemmas.Cmp.{nat_list_cmp_total}
use Rattle.std.proofs.lemmas.List.{append-nil}
use Rattle.hwdb_spec.specs.Assignment.{text_cmp}
use Rattle.hwdb_spec.specs.Lemmas.Lists.{taken_more}
use Rattle.hwdb_spec.specs.Lemmas.Orders.{equal_of, equal_text, turned}
use Rattle.hwdb_samples.specs.Groups.{AreFound, Both, IsFound, is_of, rule_in, rules_at, both_at, both_in, or_none, some_both, with_rules}
use Rattle.hwdb_samples.specs.declared.rules.Rule.{Rule}
use Rattle.hwdb_samples.specs.declared.groups.Groups.{Groups}
use Rattle.hwdb_samples.specs.declared.groups.KeySamples.{KeySamples}
use Rattle.hwdb_samples.specs.declared.groups.Property.{Property}
use Rattle.hwdb_samples.specs.declared.groups.Side.{Side}
use Rattle.hwdb_samples.specs.declared.groups.Side.TheVariants.{Old, New}
use Rattle.hwdb_samples.specs.declared.groups.Sides.{Sides}

-- a member of a list, at its place, whatever is taken after the end
module _ {A : Type 0} where
  self_place : (xs : List A) (i : ℕ) (x d : A) → i < length xs → x ≡ get_or xs i d → x ≡ get_or xs i x
  self_place [] i x d h e = absurd (omega arith)
  self_place (y ∷ xs) zero x d h e = e
  self_place (y ∷ xs) (suc i) x d h e = self_place xs i x d (omega arith) e

-- ---- one rule more

flipped : (a b : List ℕ) → is_eq (text_cmp a b) ≡ is_eq (text_cmp b a)
flipped a b = ap is_eq (nat_list_cmp_total.antisymm a b) ∙ turned (text_cmp b a)

-- what each key has after a rule of one key
abbrev pub Adds : (m n : Groups) → Side → List ℕ → Rule → Type 0
Adds m n side key rule = (q : List ℕ) → both_at n q ≡ cond (is_eq (text_cmp q key)) (Some (with_rules side (rule ∷ []) (or_none (both_at m q)))) (both_at m q)

pub added : (m n : Groups) (side : Side) (k : List ℕ) (rule : Rule) (w : Sides) → both_in w ≡ with_rules side (rule ∷ []) (or_none (both_at m k))
    → ((q : List ℕ) → get_by (λ j. text_cmp q j.now) n.sides ≡ cond (is_eq (text_cmp k q)) (Some w) (get_by (λ j. text_cmp q j.now) m.sides))
    → Adds m n side k rule
added m n side k rule w is gets q =
    ap (option_map both_in) (gets q ∙ ap (λ b. cond b (Some w) (get_by (λ j. text_cmp q j.now) m.sides)) (flipped k q))
    ∙ elim (is_eq (text_cmp q k)) as (λ b. is_eq (text_cmp q k) ≡ b → option_map both_in (cond b (Some w) (get_by (λ j. text_cmp q j.now) m.sides))
    ≡ cond b (Some (with_rules side (rule ∷ []) (or_none (both_at m q)))) (both_at m q)) [
      | true ↦ λ e. ap Some (is ∙ ap (λ t. with_rules side (rule ∷ []) (or_none (both_at m t))) (sym (equal_text q k (equal_of _ e))))
      | false ↦ λ e. refl
    ] refl

-- ---- the rules of a side, one after another

none_more : (side : Side) (both : Both) → both ≡ with_rules side [] both
none_more Old both = λ i. (sym (append-nil both.0) i, both.1)
none_more New both = λ i. (both.0, sym (append-nil both.1) i)

more_again : (side : Side) (xs ys : List Rule) (both : Both) → with_rules side ys (with_rules side xs both) ≡ with_rules side (xs ++ ys) both
more_again Old xs ys both = λ i. (append_assoc both.0 xs ys i, both.1)
more_again New xs ys both = λ i. (both.0, append_assoc both.1 xs ys i)

or_some : (both : Both) → or_none (some_both both) ≡ both
or_some ([], []) = refl
or_some ([], r ∷ new) = refl
or_some (r ∷ old, new) = refl

one_more : (side : Side) (rule : Rule) (both : Both) → some_both (with_rules side (rule ∷ []) both) ≡ Some (with_rules side (rule ∷ []) both)
one_more Old rule ([], new) = refl
one_more Old rule (r ∷ old, new) = refl
one_more New rule ([], []) = refl
one_more New rule ([], r ∷ new) = refl
one_more New rule (r ∷ old, new) = refl

rules_more : (key : List ℕ) (list : List Property) (p : Property) → rules_at key (list ++ p ∷ []) ≡ rules_at key list ++ cond (is_of key p) (p.rule ∷ []) []
rules_more key [] p = elim (is_of key p) as (λ b. map rule_in (cond b (p ∷ []) []) ≡ cond b (p.rule ∷ []) []) [ true ↦ refl | false ↦ refl ]
rules_more key (o ∷ list) p =
    let again = rules_more key list p in
    elim (is_of key o) as (λ b. map rule_in (cond b (o ∷ filter (is_of key) (list ++ p ∷ [])) (filter (is_of key) (list ++ p ∷ []))) ≡ map rule_in (cond b (o ∷ filter (is_of key) list) (filter (is_of key) list)) ++ cond (is_of key p) (p.rule ∷ []) []) [
      | true ↦ ap (λ l. o.rule ∷ l) again
      | false ↦ again
    ]

-- some rules were added, each to its key
abbrev pub AddsAll : (m n : Groups) → Side → List Property → Type 0
AddsAll m n side list = (key : List ℕ) (both : Both) → both_at m key ≡ some_both both → both_at n key ≡ some_both (with_rules side (rules_at key list) both)

pub adds_none : (m : Groups) (side : Side) (list : List Property) → AddsAll m m side (take 0 list)
adds_none m side list key both is = is ∙ ap some_both (none_more side both)

adds_one : (m n : Groups) (side : Side) (p : Property) (key : List ℕ) (both : Both) → Adds m n side p.key.now p.rule → both_at m key ≡ some_both both
    → both_at n key ≡ some_both (with_rules side (cond (is_of key p) (p.rule ∷ []) []) both)
adds_one m n side p key both adds is =
    adds key ∙ ap (λ o. cond (is_of key p) (Some (with_rules side (p.rule ∷ []) (or_none o))) o) is
    ∙ elim (is_of key p) as (λ b. cond b (Some (with_rules side (p.rule ∷ []) (or_none (some_both both)))) (some_both both) ≡ some_both (with_rules side (cond b (p.rule ∷ []) []) both)) [
      | true ↦ ap (λ o. Some (with_rules side (p.rule ∷ []) o)) (or_some both) ∙ sym (one_more side p.rule both)
      | false ↦ ap some_both (none_more side both)
    ]

pub adds_more : (first m n : Groups) (side : Side) (list : List Property) (i : ℕ) (p d : Property) → i < length list → p ≡ get_or list i d
    → AddsAll first m side (take i list) → Adds m n side p.key.now p.rule → AddsAll first n side (take (i + 1) list)
adds_more first m n side list i p d h e so_far adds key both is =
    let up : i + 1 ≡ suc i = omega arith in
    let front = rules_at key (take i list) in
    let last = cond (is_of key p) (p.rule ∷ []) [] in
    let whole : rules_at key (take (i + 1) list) ≡ front ++ last =
    ap (rules_at key) (ap (λ (n : ℕ). take n list) up ∙ taken_more list i p h (self_place list i p d h e)) ∙ rules_more key (take i list) p in
    adds_one m n side p key (with_rules side front both) adds (so_far key both is)
    ∙ ap some_both (more_again side front last both ∙ ap (λ l. with_rules side l both) (sym whole))

pub adds_whole : (first m : Groups) (side : Side) (list : List Property) (i : ℕ) → length list ≤ i → AddsAll first m side (take i list) → AddsAll first m side list
adds_whole first m side list i h so_far key both is = so_far key both is ∙ ap (λ l. some_both (with_rules side (rules_at key l) both)) (take_all i list h)

-- ---- what is found of each key

abbrev Entries : Type 0
Entries = List (Bor (List ℕ) × Sides)

-- what is found of the entries left completes what was found
abbrev pub Completes : (left whole : Entries) → List KeySamples → Type 0
Completes left whole list = (more : List KeySamples) → AreFound left more → AreFound whole (list ++ more)

pub found_one : (left next whole : Entries) (list after : List KeySamples) (k : Bor (List ℕ)) (sides : Sides) (s : KeySamples) → left ≡ (k, sides) ∷ next → after ≡ list ++ s ∷ []
    → s.key.now ≡ k.now → IsFound sides.before.items sides.after.items s.found → Completes left whole list → Completes next whole after
found_one left next whole list after k sides s cut pushed key found so_far more are =
    subst (AreFound whole) (sym (ap (λ (l : List KeySamples). l ++ more) pushed ∙ append_assoc list (s ∷ []) more))
    (so_far (s ∷ more) (subst (λ (l : Entries). AreFound l (s ∷ more)) (sym cut) (key, found, are)))

pub found_all : (left whole : Entries) (list : List KeySamples) → left ≡ [] → Completes left whole list → AreFound whole list
found_all left whole list none so_far = subst (AreFound whole) (append-nil list) (so_far [] (subst (λ (l : Entries). AreFound l []) (sym none) tt))

pub found_begun : (left whole : Entries) (list : List KeySamples) → left ≡ whole → list ≡ [] → Completes left whole list
found_begun left whole list is none more are = subst (λ (l : List KeySamples). AreFound whole (l ++ more)) (sym none) (subst (λ (l : Entries). AreFound l more) is are)

-- no key has rules yet
pub none_at : (m : Groups) → m.sides.entries ≡ [] → (key : List ℕ) → both_at m key ≡ some_both ([], [])
none_at m none key = ap (λ (es : Entries). option_map both_in (lookup (is_at (λ (j : Bor (List ℕ)). text_cmp key j.now)) es)) none
