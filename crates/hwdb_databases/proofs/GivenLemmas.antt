-- Changes with the paths that were given.
use Rattle.std.proofs.Common.{◌≡◌, ◌∙◌, ap, append_assoc, refl, sym, List, [], ◌∷◌, ◌++◌, map, Bool, true, false, cond, ℕ}
use Rattle.std.proofs.lemmas.List.{map-append}
use Rattle.std.proofs.lemmas.List.Elements.{filter-append}
use Rattle.std.specs.Prelude.{filter, flat_map, take}
use Rattle.std.specs.Ordering.{match_ordering}
use Rattle.std.specs.declared.cmp.Ordering.{Ordering}
use Rattle.std.specs.declared.cmp.Ordering.TheVariants.{Less, Equal, Greater}
use Rattle.hwdb_spec.specs.Assignment.{Assignment}
use Rattle.hwdb_spec.specs.Folders.{same}
use Rattle.hwdb_spec.specs.Tree.{Tree}
use Rattle.hwdb_spec_commands.specs.Comparisons.{device_changes}
use Rattle.hwdb_spec_commands.specs.DeviceDifferences.{counting_answers, device_differences, given_to}
use Rattle.hwdb_spec_commands.specs.Differences.{Change, change_between}
use Rattle.hwdb_spec_commands.specs.Differences.Change.{Came, Went, Changed}
use Rattle.hwdb_spec_commands.specs.Reviews.{Review, as_given, change_counts, given_change, reviewed}
use Rattle.hwdb_databases.specs.Internal.Merging.{by_place, merged, merged_from}
use Rattle.hwdb_databases.proofs.GiftLemmas.{gift_differences}

-- values are compared, and not paths
pub between_given : (x y : Assignment) → change_between (as_given x) (as_given y) ≡ map given_change (change_between x y)
between_given x y =
    elim (same x.value y.value) as (λ b. cond b [] (Changed (as_given x) (as_given y) ∷ []) ≡ map given_change (cond b [] (Changed x y ∷ []))) [
      | true ↦ refl
      | false ↦ refl
    ]

came_given : (ys : List Assignment) → map Came (map as_given ys) ≡ map given_change (map Came ys)
came_given [] = refl
came_given (y ∷ ys) = ap (λ l. Came (as_given y) ∷ l) (came_given ys)

from_given : (x : Assignment) (given rest : List Assignment → List Change) → ((ys : List Assignment) → given (map as_given ys) ≡ map given_change (rest ys))
    → (ys : List Assignment) → merged_from (as_given x) given (map as_given ys) ≡ map given_change (merged_from x rest ys)
unfolding merged_from
from_given x given rest is [] = ap (λ l. Went (as_given x) ∷ l) (is [])
from_given x given rest is (y ∷ ys) =
    let again = from_given x given rest is ys in
    elim (by_place x y) as (λ o.
    match_ordering o (Went (as_given x) ∷ given (map as_given (y ∷ ys))) (change_between (as_given x) (as_given y) ++ given (map as_given ys))
    (Came (as_given y) ∷ merged_from (as_given x) given (map as_given ys))
    ≡ map given_change (match_ordering o (Went x ∷ rest (y ∷ ys)) (change_between x y ++ rest ys) (Came y ∷ merged_from x rest ys))) [
      | Less ↦ ap (λ l. Went (as_given x) ∷ l) (is (y ∷ ys))
      | Equal ↦ ap (λ l. l ++ given (map as_given ys)) (between_given x y) ∙ ap (λ l. map given_change (change_between x y) ++ l) (is ys)
          ∙ sym (map-append given_change (change_between x y) (rest ys))
      | Greater ↦ ap (λ l. Came (as_given y) ∷ l) again
    ]

-- the changes between two lists
pub merged_given : (xs ys : List Assignment) → merged (map as_given xs) (map as_given ys) ≡ map given_change (merged xs ys)
unfolding merged
merged_given [] ys = came_given ys
merged_given (x ∷ xs) ys = from_given x (merged (map as_given xs)) (merged xs) (merged_given xs) ys

-- the changes that count between what two databases give a device
pub reviewed_gifts : (r : Review) (device : List ℕ) (t u : Tree) (olds news : List Assignment)
    → olds ≡ map as_given (map (given_to device) (counting_answers device t)) → news ≡ map as_given (map (given_to device) (counting_answers device u))
    → filter (change_counts r) (merged olds news) ≡ device_changes r t u device
reviewed_gifts r device t u olds news old new =
    let xs = map (given_to device) (counting_answers device t) in
    let ys = map (given_to device) (counting_answers device u) in
    ap (λ (g : List Assignment × List Assignment). filter (change_counts r) (merged g.0 g.1)) (λ i. (old i, new i))
    ∙ ap (filter (change_counts r)) (merged_given xs ys) ∙ ap (reviewed r) (gift_differences device t u xs ys refl refl)

-- the same, of what was found
pub counted_gifts : (r : Review) (device : List ℕ) (t u : Tree) (olds news : List Assignment) (told found : List Change)
    → found ≡ filter (change_counts r) told → told ≡ merged olds news
    → olds ≡ map as_given (map (given_to device) (counting_answers device t)) → news ≡ map as_given (map (given_to device) (counting_answers device u))
    → found ≡ device_changes r t u device
counted_gifts r device t u olds news told found is merges old new =
    is ∙ ap (filter (change_counts r)) merges ∙ reviewed_gifts r device t u olds news old new

-- given one by one, and all at once
pub given_each : (device : List ℕ) (es : List (List ℕ × List Assignment))
    → flat_map (λ p. map as_given (map (given_to device) (take 1 p.1))) es ≡ map as_given (map (given_to device) (flat_map (λ p. take 1 p.1) es))
given_each device [] = refl
given_each device (e ∷ es) =
    ap (λ l. map as_given (map (given_to device) (take 1 e.1)) ++ l) (given_each device es)
    ∙ sym (map-append as_given (map (given_to device) (take 1 e.1)) (map (given_to device) (flat_map (λ p. take 1 p.1) es)))
    ∙ ap (map as_given) (sym (map-append (given_to device) (take 1 e.1) (flat_map (λ p. take 1 p.1) es)))

-- what is held, what counts of the next changes, and of those after them
pub reviewed_step : (r : Review) (held next : List Change) (all changes more here : List Change) → all ≡ changes ++ more → map given_change changes ≡ here
    → next ≡ held ++ filter (change_counts r) here → next ++ reviewed r more ≡ held ++ reviewed r all
reviewed_step r held next all changes more here is given n =
    ap (λ l. l ++ reviewed r more) n ∙ append_assoc held (filter (change_counts r) here) (reviewed r more)
    ∙ ap (λ (l : List Change). held ++ (filter (change_counts r) l ++ reviewed r more)) (sym given)
    ∙ ap (λ (l : List Change). held ++ l) (sym (ap (reviewed r) is ∙ ap (filter (change_counts r)) (map-append given_change changes more)
    ∙ filter-append (change_counts r) (map given_change changes) (map given_change more)))
