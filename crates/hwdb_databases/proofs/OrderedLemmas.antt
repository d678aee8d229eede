-- The assignments of a database, sorted by their positions.
use Rattle.std.proofs.Common.{◌≡◌, refl, false, List, [], ◌∷◌, map, T, subst}
use Rattle.std.specs.FinMap.Entries.{is_sorted, below_all}
use Rattle.std.specs.List.{AllByRecursion, IsDistinct}
use Rattle.std.specs.List.Sorted.{IsPermutation, IsSorted}
use Rattle.std.specs.Ordering.{nat_cmp, is_eq, is_lt, eq_by_cmp, ordering_then}
use Rattle.std.specs.declared.cmp.Ordering.{Ordering}
use Rattle.std.specs.declared.cmp.Ordering.TheVariants.{Less, Equal, Greater}
use Rattle.std.proofs.lemmas.List.Sorted.{IsPermutation-map}
use Rattle.hwdb_spec.specs.Assignment.{Assignment, position_cmp, assignment_cmp}
use Rattle.hwdb_spec_commands.specs.Dump.{dumped}
use Rattle.hwdb_spec.specs.Tree.{Tree, IsTree, members_under, place_cmp, entry_of}
use Rattle.hwdb_databases.proofs.OrderLemmas.{members_sorted, and_first, and_second}
use Rattle.hwdb_text.specs.Lemmas.Members.{sorted_is, sorted_map}
use Rattle.hwdb_spec.specs.Lemmas.Places.{assignment_total}

-- if the last of two orders decides against a tie, the two together don't tie
then_apart : (a b : Ordering) → is_eq b ≡ false → is_eq (ordering_then a b) ≡ false
then_apart Less b h = refl
then_apart Equal b h = h
then_apart Greater b h = refl

pub less_apart : (o : Ordering) → T (is_lt o) → is_eq o ≡ false
less_apart Less h = refl
less_apart Equal h = absurd h
less_apart Greater h = refl

places_apart : (x y : Assignment) → T (is_lt (place_cmp (entry_of x).0 (entry_of y).0)) → eq_by_cmp assignment_cmp x y ≡ false
unfolding assignment_cmp position_cmp
places_apart x y h =
    let place = place_cmp (entry_of x).0 (entry_of y).0 in
    then_apart (nat_cmp x.position.priority y.position.priority) (ordering_then (nat_cmp x.position.line y.position.line) place)
    (then_apart (nat_cmp x.position.line y.position.line) place (less_apart place h))

all_apart : (x : Assignment) (ys : List Assignment) → T (below_all place_cmp (entry_of x).0 (map entry_of ys)) → AllByRecursion (λ y. eq_by_cmp assignment_cmp x y ≡ false) ys
all_apart x [] h = tt
all_apart x (y ∷ ys) h = (
  places_apart x y (and_first _ (below_all place_cmp (entry_of x).0 (map entry_of ys)) h),
  all_apart x ys (and_second (is_lt (place_cmp (entry_of x).0 (entry_of y).0)) _ h),
)

pub distinct : (xs : List Assignment) → T (is_sorted place_cmp (map entry_of xs)) → IsDistinct (eq_by_cmp assignment_cmp) xs
unfolding IsDistinct
distinct [] h = tt
distinct (x ∷ xs) h = (
  all_apart x xs (and_first _ (is_sorted place_cmp (map entry_of xs)) h),
  distinct xs (and_second (below_all place_cmp (entry_of x).0 (map entry_of xs)) _ h),
)

-- what a sort by position leaves of a tree's assignments
pub sorted_is_dumped : {X : Type 0} (of : X → Assignment) (t : Tree) (old new : List X) → IsTree t → map of old ≡ members_under [] t
    → IsPermutation old new → IsSorted (λ x y. assignment_cmp (of x) (of y)) new → map of new ≡ dumped t
unfolding dumped
sorted_is_dumped of t old new ascends is moved up =
    let apart : IsDistinct (eq_by_cmp assignment_cmp) (members_under [] t) = distinct (members_under [] t) (members_sorted t ascends) in
    let all : IsPermutation (map of old) (map of new) = IsPermutation-map of old new moved in
    let P : List Assignment → Type 0 = λ l. IsPermutation l (map of new) in
    sorted_is assignment_cmp assignment_total (members_under [] t) (map of new) (subst P is all) (sorted_map assignment_cmp of new up) apart
