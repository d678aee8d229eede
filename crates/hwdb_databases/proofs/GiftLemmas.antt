-- What a database gives a device ascends by key, so that two lists of it are gone through side by side.
use Rattle.std.proofs.Common.{◌≡◌, ◌≢◌, ◌∙◌, ap, sym, refl, subst, ℕ, List, [], ◌∷◌, ◌++◌, map, take, filter, reverse, true, false, cond, T}
use Rattle.std.specs.Prelude.{flat_map}
use Rattle.std.specs.FinMap as finite
use Rattle.std.specs.FinMap.Entries.{is_sorted, below_all}
use Rattle.std.specs.List.{AllByRecursion}
use Rattle.std.specs.List.Sorted.{IsStrictlySortedBy}
use Rattle.std.specs.Ordering.{ordering_then}
use Rattle.std.specs.declared.cmp.Ordering.TheVariants.{Less, Equal}
use Rattle.std.proofs.lemmas.Cmp.{nat_list_cmp_total, tied_itself}
use Rattle.std.proofs.lemmas.List.Elements.{recursion_from_All}
use Rattle.hwdb_spec.specs.Answers.{has_key, key_of_answer}
use Rattle.hwdb_spec.specs.Assignment.{Assignment, in_order, text_cmp}
use Rattle.hwdb_spec_commands.specs.DeviceDifferences.{counting_answers, device_differences, gifts, given_to}
use Rattle.hwdb_spec.specs.Explanations.{answers_with, explained}
use Rattle.hwdb_spec.specs.Tree.{Tree, answers, entry_of, place_cmp}
use Rattle.hwdb_query.specs.Laws.{AllAreExplained, ExplainedAreEffective, first_value}
use Rattle.hwdb_databases.specs.Internal.Merging.{merged}
use Rattle.hwdb_databases.specs.Laws.{GiftsAreEffective}
use Rattle.hwdb_spec.specs.Lemmas.Orders.{equal_of}
use Rattle.hwdb_text.specs.Lemmas.Members.{in_order_rises}
use Rattle.hwdb_databases.proofs.MergeLemmas.{merged_differences}
use Rattle.hwdb_databases.proofs.OrderLemmas.{and_of, entries_of_sorted, is_less}

map_append : {X Y : Type 0} (f : X → Y) (xs ys : List X) → map f (xs ++ ys) ≡ map f xs ++ map f ys
map_append f [] ys = refl
map_append f (x ∷ xs) ys = ap (λ l. f x ∷ l) (map_append f xs ys)

-- given one by one, and all at once
pub given_all : (device : List ℕ) (es : List (List ℕ × List Assignment)) → flat_map (λ p. map (given_to device) (take 1 p.1)) es ≡ map (given_to device) (flat_map (λ p. take 1 p.1) es)
given_all device [] = refl
given_all device (e ∷ es) =
    ap (λ l. map (given_to device) (take 1 e.1) ++ l) (given_all device es) ∙ sym (map_append (given_to device) (take 1 e.1) (flat_map (λ p. take 1 p.1) es))

-- ---- they ascend
abbrev Entry : Type 0
Entry = (List ℕ × List ℕ) × Assignment

-- a key and its value
abbrev pair_of : Entry → List ℕ × List ℕ
pair_of e = (e.0.1, e.1.value)

-- a key and the value of its first answer
abbrev first_of_key : List ℕ × List Assignment → List ℕ × List ℕ
first_of_key p = (p.0, first_value p.1)

-- the entries of the first answer of each key
abbrev entries_from : (device : List ℕ) (all : List Assignment) (keys : List (List ℕ)) → List Entry
entries_from device all keys = map entry_of (map (given_to device) (flat_map (λ (p : List ℕ × List Assignment). take 1 p.1) (map (λ key. (key, answers_with key all)) keys)))

first_is : (x y : Assignment) (xs ys : List Assignment) → x ∷ xs ≡ y ∷ ys → x ≡ y
first_is x y xs ys h = cc

-- the first that is kept has the key
first_has : (key : List ℕ) (f : Assignment) (more : List Assignment) (all : List Assignment) → filter (has_key key) all ≡ f ∷ more → has_key key f ≡ true
first_has key f more [] is = cc
first_has key f more (x ∷ xs) is =
    elim (has_key key x) as (λ b. has_key key x ≡ b → cond b (x ∷ filter (has_key key) xs) (filter (has_key key) xs) ≡ f ∷ more → has_key key f ≡ true) [
      | true ↦ λ e kept. subst (λ (y : Assignment). has_key key y ≡ true) (first_is x f _ _ kept) e
      | false ↦ λ e kept. first_has key f more xs kept
    ] refl is

-- two places of one device are compared by their keys
by_key : (device a b : List ℕ) → place_cmp (device, a) (device, b) ≡ text_cmp a b
by_key device a b = ap (λ o. ordering_then o (text_cmp a b)) (tied_itself nat_list_cmp_total device)

tied_less : (key k q : List ℕ) → text_cmp key k ≡ Equal → text_cmp q key ≡ Less → text_cmp q k ≡ Less
tied_less key k q tie less = subst (λ (j : List ℕ). text_cmp q j ≡ Less) (finite.slice_cmp-IsAntisymmetric finite.nat_cmp-IsAntisymmetric key k tie) less

module _ (device : List ℕ) (all : List Assignment) where
  -- one more key in front, by whether it has an answer
  step : (P : List Entry → Type 0) (key : List ℕ) (keys : List (List ℕ))
      → P (entries_from device all keys)
      → ((f : Assignment) → text_cmp key f.position.key ≡ Equal → P (entry_of (given_to device f) ∷ entries_from device all keys))
      → P (entries_from device all (key ∷ keys))
  step P key keys none some =
      elim (answers_with key all) as (λ l. answers_with key all ≡ l
      → P (map entry_of (map (given_to device) (take 1 l ++ flat_map (λ (p : List ℕ × List Assignment). take 1 p.1) (map (λ k. (k, answers_with k all)) keys))))) [
        | [] ↦ λ is. none
        | f ∷ more ↦ λ is. some f (equal_of (text_cmp key f.position.key) (first_has key f more (reverse all) is))
      ] refl

  -- they tell of each key the value of its first answer
  told : (keys : List (List ℕ)) → AllByRecursion (λ (p : List ℕ × List Assignment). p.1 ≢ []) (map (λ key. (key, answers_with key all)) keys)
      → map pair_of (entries_from device all keys) ≡ map first_of_key (map (λ key. (key, answers_with key all)) keys)
  told [] h = refl
  told (key ∷ keys) h =
      let rest = told keys h.1 in
      elim (answers_with key all) as (λ l. answers_with key all ≡ l
      → map pair_of (map entry_of (map (given_to device) (take 1 l ++ flat_map (λ (p : List ℕ × List Assignment). take 1 p.1) (map (λ k. (k, answers_with k all)) keys))))
      ≡ (key, first_value l) ∷ map first_of_key (map (λ k. (k, answers_with k all)) keys)) [
        | [] ↦ λ is. absurd (h.0 is)
        | f ∷ more ↦ λ is.
            let same : key ≡ f.position.key = finite.slice_cmp-IsAntisymmetric finite.nat_cmp-IsAntisymmetric key f.position.key (equal_of (text_cmp key f.position.key) (first_has key f more (reverse all) is)) in
            λ i. (sym same i, f.value) ∷ rest i
      ] refl

  below : (q : List ℕ) (keys : List (List ℕ)) → AllByRecursion (λ k. text_cmp q k ≡ Less) keys → T (below_all place_cmp (device, q) (entries_from device all keys))
  below q [] h = tt
  below q (key ∷ keys) h =
      let rest = below q keys h.1 in
      step (λ l. T (below_all place_cmp (device, q) l)) key keys rest
      (λ f tie. and_of _ _ (is_less _ (by_key device q f.position.key ∙ tied_less key f.position.key q tie h.0)) rest)

  same_below : (key k : List ℕ) (keys : List (List ℕ)) → text_cmp key k ≡ Equal → AllByRecursion (λ j. text_cmp key j ≡ Less) keys → AllByRecursion (λ j. text_cmp k j ≡ Less) keys
  same_below key k keys tie h = subst (λ (i : List ℕ). AllByRecursion (λ j. text_cmp i j ≡ Less) keys) (finite.slice_cmp-IsAntisymmetric finite.nat_cmp-IsAntisymmetric key k tie) h

  sorted : (keys : List (List ℕ)) → IsStrictlySortedBy text_cmp keys → T (is_sorted place_cmp (entries_from device all keys))
  unfolding IsStrictlySortedBy
  sorted [] up = tt
  sorted (key ∷ keys) up =
      let rest = sorted keys up.1 in
      step (λ l. T (is_sorted place_cmp l)) key keys rest
      (λ f tie. and_of _ _ (below f.position.key keys (same_below key f.position.key keys tie up.0)) rest)

gifts_sorted : (device : List ℕ) (t : Tree) → T (is_sorted place_cmp (map entry_of (map (given_to device) (counting_answers device t))))
unfolding explained
gifts_sorted device t = sorted device (answers device t) (in_order text_cmp (map key_of_answer (answers device t))) (in_order_rises text_cmp nat_list_cmp_total (map key_of_answer (answers device t)))

pub entries_of_gifts : (device : List ℕ) (t : Tree) → finite.entries (gifts device t) ≡ map entry_of (map (given_to device) (counting_answers device t))
unfolding gifts
entries_of_gifts device t = entries_of_sorted (map entry_of (map (given_to device) (counting_answers device t))) (gifts_sorted device t)

-- the changes between what two databases give a device
pub gift_differences : (device : List ℕ) (t u : Tree) (olds news : List Assignment)
    → olds ≡ map (given_to device) (counting_answers device t) → news ≡ map (given_to device) (counting_answers device u)
    → merged olds news ≡ device_differences device t u
unfolding device_differences
gift_differences device t u olds news old new =
    ap (λ (g : List Assignment × List Assignment). merged g.0 g.1) (λ i. (old i, new i))
    ∙ sym (merged_differences (gifts device t) (gifts device u) (map (given_to device) (counting_answers device t)) (map (given_to device) (counting_answers device u))
    (entries_of_gifts device t) (entries_of_gifts device u))

-- what is given is the effective list
pub gifts_told : ExplainedAreEffective → AllAreExplained → GiftsAreEffective
unfolding explained
gifts_told are present device t =
    ap (map pair_of) (entries_of_gifts device t)
    ∙ told device (answers device t) (in_order text_cmp (map key_of_answer (answers device t))) (recursion_from_All (λ (p : List ℕ × List Assignment). p.1 ≢ []) (explained (answers device t)) (present (answers device t)))
    ∙ are (answers device t)
