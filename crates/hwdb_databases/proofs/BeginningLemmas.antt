-- The patterns below a byte begin with it.
use Rattle.std.proofs.Common.{◌≡◌, ◌∙◌, ap, sym, refl, ℕ, ◌+◌, nat_eq, Bool, true, false, List, [], ◌∷◌, ◌++◌, map, filter, drop, length, slice_get, arith, append_assoc, add-one, eq-eqb, eqb-true, Option, None, Some, if◌then◌else◌}
use Rattle.std.specs.Prelude.{flat_map}
use Rattle.std.proofs.lemmas.Grind.{flat_map-append}
use Rattle.std.proofs.lemmas.List.Elements.{filter-append}
use Rattle.hwdb_spec.specs.Assignment.{Assignment}
use Rattle.hwdb_spec.specs.Tree.{Children, Tree, Value, members_under, prefix_of, values_below, values_of, values_under}
use Rattle.hwdb_spec.specs.Tree.Tree.{Node}
use Rattle.hwdb_spec.specs.Tree.Children.{NoMore, Child}
use Rattle.hwdb_reader.specs.Views.{Shown, children_of, shown}
use Rattle.hwdb_query.specs.Internal.Members.{assignment_of, assignment_shown, members_in, one_assignment, own_members}
use Rattle.hwdb_query.specs.Lemmas.Parts.{kid_next, members_split, own_listed}
use Rattle.hwdb_databases.specs.Beginnings.{is_from, members_from}

-- all of a list, or none of it
abbrev pub keep : Bool → List Assignment → List Assignment
keep true l = l
keep false l = []

keep_nil : (c : Bool) → keep c [] ≡ []
keep_nil true = refl
keep_nil false = refl

keep_append : (c : Bool) (l m : List Assignment) → keep c l ++ keep c m ≡ keep c (l ++ m)
keep_append true l m = refl
keep_append false l m = refl

keep_one : (c : Bool) (a : Assignment) → (if c then a ∷ [] else []) ≡ keep c (a ∷ [])
keep_one true a = refl
keep_one false a = refl

module _ (first : ℕ) where
  both : (c : Bool) (l m : List Assignment) → filter (is_from first) l ≡ keep c l → filter (is_from first) m ≡ keep c m → filter (is_from first) (l ++ m) ≡ keep c (l ++ m)
  both c l m h g =
      filter-append (is_from first) l m ∙ ap (λ x. x ++ filter (is_from first) m) h ∙ ap (λ x. keep c l ++ x) g ∙ keep_append c l m

  by_parts : (c : Bool) (l m : List Assignment) → l ≡ m → filter (is_from first) m ≡ keep c m → filter (is_from first) l ≡ keep c l
  by_parts c l m e h = ap (filter (is_from first)) e ∙ h ∙ ap (keep c) (sym e)

  one_kept : (b : ℕ) (q : List ℕ) (s : Shown) (key : Option (List ℕ)) → filter (is_from first) (one_assignment (b ∷ q) s key) ≡ keep (nat_eq first b) (one_assignment (b ∷ q) s key)
  one_kept b q s None = sym (keep_nil (nat_eq first b))
  one_kept b q s (Some key) = keep_one (nat_eq first b) _

  own_kept : (b : ℕ) (q : List ℕ) (values : List Value) → filter (is_from first) (own_members (b ∷ q) values) ≡ keep (nat_eq first b) (own_members (b ∷ q) values)
  unfolding assignment_shown
  own_kept b q [] = sym (keep_nil (nat_eq first b))
  own_kept b q (v ∷ values) =
      both (nat_eq first b) (assignment_shown (b ∷ q) (shown v)) (own_members (b ∷ q) values) (one_kept b q (shown v) (shown v).key) (own_kept b q values)

  mutual
    unfolding values_under

    under_kept : (b : ℕ) (q : List ℕ) (t : Tree) → filter (is_from first) (members_under (b ∷ q) t) ≡ keep (nat_eq first b) (members_under (b ∷ q) t)
    under_kept b q (Node prefix values children) =
        let here = flat_map assignment_of (map (λ v. (b ∷ (q ++ prefix), v)) values) in
        let below = flat_map assignment_of (values_below (b ∷ (q ++ prefix)) children) in
        by_parts (nat_eq first b) _ _ (flat_map-append assignment_of (map (λ v. (b ∷ (q ++ prefix), v)) values) (values_below (b ∷ (q ++ prefix)) children))
        (both (nat_eq first b) here below
        (by_parts (nat_eq first b) here (own_members (b ∷ (q ++ prefix)) values) (own_listed (b ∷ (q ++ prefix)) values) (own_kept b (q ++ prefix) values))
        (below_kept b (q ++ prefix) children))

    below_kept : (b : ℕ) (q : List ℕ) (ks : Children)
        → filter (is_from first) (flat_map assignment_of (values_below (b ∷ q) ks)) ≡ keep (nat_eq first b) (flat_map assignment_of (values_below (b ∷ q) ks))
    below_kept b q NoMore = sym (keep_nil (nat_eq first b))
    below_kept b q (Child byte t ks) =
        by_parts (nat_eq first b) _ _ (flat_map-append assignment_of (values_under (b ∷ (q ++ byte ∷ [])) t) (values_below (b ∷ q) ks))
        (both (nat_eq first b) (members_under (b ∷ (q ++ byte ∷ [])) t) (flat_map assignment_of (values_below (b ∷ q) ks)) (under_kept b (q ++ byte ∷ []) t) (below_kept b q ks))

  kids_kept : (b : ℕ) (q : List ℕ) (kids : List (ℕ × Tree)) → filter (is_from first) (members_in (b ∷ q) kids) ≡ keep (nat_eq first b) (members_in (b ∷ q) kids)
  kids_kept b q [] = sym (keep_nil (nat_eq first b))
  kids_kept b q (k ∷ kids) =
      both (nat_eq first b) (members_under (b ∷ (q ++ k.0 ∷ [])) k.1) (members_in (b ∷ q) kids) (under_kept b (q ++ k.0 ∷ []) k.1) (kids_kept b q kids)

  one_none : (s : Shown) (key : Option (List ℕ)) → filter (is_from first) (one_assignment [] s key) ≡ []
  one_none s None = refl
  one_none s (Some key) = refl

  own_none : (values : List Value) → filter (is_from first) (own_members [] values) ≡ []
  unfolding assignment_shown
  own_none [] = refl
  own_none (v ∷ values) =
      filter-append (is_from first) (assignment_shown [] (shown v)) (own_members [] values)
      ∙ ap (λ x. x ++ filter (is_from first) (own_members [] values)) (one_none (shown v) (shown v).key)
      ∙ own_none values

  -- a root without a prefix
  pub without_prefix : (t : Tree) → prefix_of t ≡ [] → members_from first t ≡ filter (is_from first) (members_in [] (children_of t))
  without_prefix t e =
      ap (filter (is_from first)) (members_split [] t)
      ∙ ap (λ r. filter (is_from first) (own_members r (values_of t) ++ members_in r (children_of t))) e
      ∙ filter-append (is_from first) (own_members [] (values_of t)) (members_in [] (children_of t))
      ∙ ap (λ x. x ++ filter (is_from first) (members_in [] (children_of t))) (own_none (values_of t))

  -- a root with one
  with_prefix : (t : Tree) (b : ℕ) (q : List ℕ) → prefix_of t ≡ b ∷ q → members_from first t ≡ keep (nat_eq first b) (members_under [] t)
  with_prefix t b q e =
      by_parts (nat_eq first b) _ _ (members_split [] t ∙ ap (λ r. own_members r (values_of t) ++ members_in r (children_of t)) e)
      (both (nat_eq first b) (own_members (b ∷ q) (values_of t)) (members_in (b ∷ q) (children_of t)) (own_kept b q (values_of t)) (kids_kept b q (children_of t)))

  -- a child
  child_next : (kids : List (ℕ × Tree)) (i : ℕ) (k : ℕ × Tree) → slice_get kids i ≡ Some k
      → filter (is_from first) (members_in [] (drop i kids)) ≡ keep (nat_eq first k.0) (members_under (k.0 ∷ []) k.1) ++ filter (is_from first) (members_in [] (drop (i + 1) kids))
  child_next kids i k at =
      let next : drop i kids ≡ k ∷ drop (i + 1) kids = rw (add-one i) (kid_next kids i k at) in
      ap (λ l. filter (is_from first) (members_in [] l)) next
      ∙ filter-append (is_from first) (members_under (k.0 ∷ []) k.1) (members_in [] (drop (i + 1) kids))
      ∙ ap (λ x. x ++ filter (is_from first) (members_in [] (drop (i + 1) kids))) (under_kept k.0 [] k.1)

  led : (b : ℕ) → b ≡ first → nat_eq first b ≡ true
  led b e = eq-eqb first b (sym e)

  unled : (b : ℕ) → (b ≡ first → ⊥) → nat_eq first b ≡ false
  unled b h =
      elim (nat_eq first b) as (λ c. nat_eq first b ≡ c → nat_eq first b ≡ false) [
        | true ↦ λ e. absurd (h (sym (eqb-true first b e)))
        | false ↦ λ e. e
      ] refl

  -- all patterns of a database begin with the byte, or none
  pub all_led : (t : Tree) (b : ℕ) (q : List ℕ) → prefix_of t ≡ b ∷ q → b ≡ first → members_under [] t ≡ members_from first t
  all_led t b q e h = sym (with_prefix t b q e ∙ ap (λ c. keep c (members_under [] t)) (led b h))

  pub none_led : (t : Tree) (b : ℕ) (q : List ℕ) → prefix_of t ≡ b ∷ q → (b ≡ first → ⊥) → [] ≡ members_from first t
  none_led t b q e h = sym (with_prefix t b q e ∙ ap (λ c. keep c (members_under [] t)) (unled b h))

  -- a child that the byte leads to
  pub child_added : (kids : List (ℕ × Tree)) (i : ℕ) (k : ℕ × Tree) (all old new : List Assignment) → slice_get kids i ≡ Some k → k.0 ≡ first
      → new ≡ old ++ members_under (k.0 ∷ []) k.1 → old ++ filter (is_from first) (members_in [] (drop i kids)) ≡ all
      → new ++ filter (is_from first) (members_in [] (drop (i + 1) kids)) ≡ all
  child_added kids i k all old new at h e so_far =
      let m = members_under (k.0 ∷ []) k.1 in
      let r = filter (is_from first) (members_in [] (drop (i + 1) kids)) in
      ap (λ x. x ++ r) e ∙ append_assoc old m r ∙ ap (λ x. old ++ x) (sym (child_next kids i k at ∙ ap (λ c. keep c m ++ r) (led k.0 h))) ∙ so_far

  -- another child
  pub child_passed : (kids : List (ℕ × Tree)) (i : ℕ) (k : ℕ × Tree) (all old new : List Assignment) → slice_get kids i ≡ Some k → (k.0 ≡ first → ⊥)
      → new ≡ old → old ++ filter (is_from first) (members_in [] (drop i kids)) ≡ all
      → new ++ filter (is_from first) (members_in [] (drop (i + 1) kids)) ≡ all
  child_passed kids i k all old new at h e so_far =
      let m = members_under (k.0 ∷ []) k.1 in
      let r = filter (is_from first) (members_in [] (drop (i + 1) kids)) in
      ap (λ x. x ++ r) e ∙ ap (λ x. old ++ x) (sym (child_next kids i k at ∙ ap (λ c. keep c m ++ r) (unled k.0 h))) ∙ so_far

pub no_bytes : (l : List ℕ) → length l ≡ 0 → l ≡ []
no_bytes [] h = refl
no_bytes (b ∷ l) h = absurd (omega (arith, h))
