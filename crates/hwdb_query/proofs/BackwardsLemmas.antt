-- The values of a node that are gone over from the last to the first.
use Rattle.std.proofs.Common.{◌≡◌, ◌∙◌, ◌-◌, ◌<◌, ap, sym, refl, subst, arith, ℕ, zero, suc, Bool, true, false, length, List, [], ◌∷◌, ◌++◌, take, drop, filter, Option, Some, None}
use Rattle.std.specs.List.{AllByRecursion}
use Rattle.std.specs.Cmp.Lexicographic.{slice_cmp}
use Rattle.std.specs.Ordering.{nat_cmp}
use Rattle.std.specs.declared.cmp.Ordering.TheVariants.{Less, Equal}
use Rattle.std.proofs.lemmas.Cmp.{nat_list_cmp_total, tied_itself}
use Rattle.std.proofs.lemmas.List.Elements.{filter-append}
use Rattle.hwdb_spec.specs.Tree.{Tree, Value, IsTree, KeysAscend, key_of, values_of}
use Rattle.hwdb_query.specs.Internal.Members.{one_assignment, assignment_shown, own_members}
use Rattle.hwdb_reader.specs.Views.{shown}
use Rattle.hwdb_spec.specs.Tree.Tree.{Node}
use Rattle.hwdb_spec.specs.Assignment.{Assignment, position_cmp, assignment_cmp}
use Rattle.hwdb_spec.specs.Answers.{is_behind}
use Rattle.hwdb_query.specs.Internal.Lists.{keep_all}
use Rattle.hwdb_query.specs.Internal.Hits.{after_position}
use Rattle.hwdb_query.specs.Internal.Collected.{PageCollects}
use Rattle.hwdb_query.specs.declared.next_page.NextPage.{NextPage}
use Rattle.hwdb_query.proofs.PutLemmas.{PlacesApart, keep_all_append, keep_both_ways, apart_filter}
use Rattle.hwdb_query.proofs.PartLemmas.{own_split, own_taken}
use Rattle.hwdb_query.proofs.CollectionLemmas.{page_more, page_none, page_values_over}
use Rattle.hwdb_spec.specs.Lemmas.Orders.{equal_text, then_equal}
use Rattle.hwdb_spec.specs.Lemmas.Places.{assignment_total, key_is}
use Rattle.hwdb_query.specs.Lemmas.Paths.{keys_above}

same_key : (x y : Assignment) → assignment_cmp x y ≡ Equal → x.position.key ≡ y.position.key
unfolding assignment_cmp position_cmp
same_key x y h =
    let a = then_equal (nat_cmp x.position.priority y.position.priority) _ h in
    let b = then_equal (nat_cmp x.position.line y.position.line) _ a.1 in
    let c = then_equal (slice_cmp nat_cmp x.position.pattern y.position.pattern) (slice_cmp nat_cmp x.position.key y.position.key) b.1 in
    equal_text x.position.key y.position.key c.1

-- what a value assigns has another place than what values of greater keys assign
value_apart : (pattern key : List ℕ) (v : Value) (values : List Value) → key_of v.key ≡ Some key → AllByRecursion (λ w. slice_cmp nat_cmp v.key w.key ≡ Less) values
    → (x : Assignment) → x.position.key ≡ key → AllByRecursion (λ y. assignment_cmp x y ≡ Equal → ⊥) (own_members pattern values)
unfolding assignment_shown
value_apart pattern key v [] at above x is = tt
value_apart pattern key v (w ∷ values) at above x is =
    let rest = value_apart pattern key v values at above.1 x is in
    elim (key_of w.key) as (λ o. key_of w.key ≡ o → AllByRecursion (λ y. assignment_cmp x y ≡ Equal → ⊥) (one_assignment pattern (shown w) o ++ own_members pattern values)) [
      | None ↦ λ e. rest
      | Some other ↦ λ e. (
        λ h.
            let stored : v.key ≡ w.key = key_is v.key key at ∙ ap (λ k. 32 ∷ k) (sym is ∙ same_key x _ h) ∙ sym (key_is w.key other e) in
            let tied : slice_cmp nat_cmp v.key v.key ≡ Equal = tied_itself nat_list_cmp_total v.key in
            let less : slice_cmp nat_cmp v.key v.key ≡ Less = ap (slice_cmp nat_cmp v.key) stored ∙ above.0 in cc,
        rest,
      )
    ] refl

-- one value and those after it
one_apart : (pattern : List ℕ) (before : Option (List ℕ)) (values : List Value) (i : ℕ) → KeysAscend before values
    → PlacesApart assignment_cmp (own_members pattern (take 1 (drop i values))) (own_members pattern (drop (suc i) values))
unfolding assignment_shown
one_apart pattern before [] zero up = tt
one_apart pattern before [] (suc i) up = tt
one_apart pattern before (v ∷ values) zero up =
    elim (key_of v.key) as (λ o. key_of v.key ≡ o → PlacesApart assignment_cmp (one_assignment pattern (shown v) o ++ []) (own_members pattern values)) [
      | None ↦ λ e. tt
      | Some key ↦ λ e. (value_apart pattern key v values e (keys_above v.key values up.1) _ refl, tt)
    ] refl
one_apart pattern before (v ∷ values) (suc i) up = one_apart pattern (Some v.key) values i up.1

keys_ascend : (t : Tree) → IsTree t → KeysAscend None (values_of t)
unfolding IsTree values_of
keys_ascend (Node prefix values children) h = h.0

-- two lists without a place in common are taken in either order
page_both_ways : (a b : NextPage) (xs ys : List Assignment) → PlacesApart assignment_cmp xs ys → PageCollects a (ys ++ xs) b → PageCollects a (xs ++ ys) b
page_both_ways a b xs ys apart p =
    let most = a.held.most in
    let behind = is_behind (after_position a.after) in
    let both : (xs ys : List Assignment) → keep_all assignment_cmp most (filter behind (xs ++ ys)) a.held.hits ≡ keep_all assignment_cmp most (filter behind ys) (keep_all assignment_cmp most (filter behind xs) a.held.hits) =
    λ xs ys. ap (λ l. keep_all assignment_cmp most l a.held.hits) (filter-append behind xs ys) ∙ keep_all_append assignment_cmp most (filter behind xs) (filter behind ys) a.held.hits in
    record {
      after = p.after;
      most = p.most;
      ascends = p.ascends;
      kept = λ up.
          p.kept up ∙ both ys xs
          ∙ keep_both_ways assignment_cmp assignment_total most (filter behind xs) (filter behind ys) a.held.hits (apart_filter assignment_cmp behind xs ys apart)
          ∙ sym (both xs ys);
    }

-- the values that a walk from the one end or the other has come past
abbrev pub walked : Bool → ℕ → List Value → List Value
walked true step values = drop (length values - step) values
walked false step values = take step values

-- and the one that it comes to
abbrev pub walked_to : Bool → ℕ → List Value → ℕ
walked_to true step values = length values - 1 - step
walked_to false step values = step

pub none_walked : (a : NextPage) (pattern : List ℕ) (falls : Bool) (values : List Value) → PageCollects a (own_members pattern (walked falls 0 values)) a
none_walked a pattern true values = page_values_over a pattern values (length values - 0) (omega arith)
none_walked a pattern false values = page_none a

pub one_walked : (a b c : NextPage) (pattern : List ℕ) (falls : Bool) (t : Tree) (step : ℕ) → IsTree t → step < length (values_of t) → PageCollects a (own_members pattern (walked falls step (values_of t))) b
    → PageCollects b (own_members pattern (take 1 (drop (walked_to falls step (values_of t)) (values_of t)))) c → PageCollects a (own_members pattern (walked falls (suc step) (values_of t))) c
one_walked a b c pattern true t step tree within before here =
    let values = values_of t in
    let i = length values - 1 - step in
    let next : length values - step ≡ suc i = omega (arith, within) in
    let now : i ≡ length values - suc step = omega (arith, within) in
    let behind = subst (λ k. PageCollects a (own_members pattern (drop k values)) b) next before in
    let xs = own_members pattern (take 1 (drop i values)) in
    let ys = own_members pattern (drop (suc i) values) in
    subst (λ k. PageCollects a (own_members pattern (drop k values)) c) now
    (subst (λ l. PageCollects a l c) (sym (own_split pattern values i))
    (page_both_ways a c xs ys (one_apart pattern None values i (keys_ascend t tree)) (page_more a b c ys xs behind here)))
one_walked a b c pattern false t step tree within before here =
    let values = values_of t in
    subst (λ l. PageCollects a l c) (sym (own_taken pattern values step))
    (page_more a b c (own_members pattern (take step values)) (own_members pattern (take 1 (drop step values))) before here)
