-- The place of a hit among ascending ones, found by halving, and full lists of hits.
use Rattle.std.proofs.Common.{◌≡◌, ◌∙◌, ap, sym, refl, subst, ℕ, zero, suc, ◌+◌, ◌≤◌, ◌<◌, true, false, List, [], ◌∷◌, ◌++◌, take, drop, length, get_or, arith, Result, Err}
use Rattle.std.specs.Prelude.{slice_index_or}
use Rattle.std.specs.List.{AllByRecursion, HoldsAt}
use Rattle.std.specs.List.Sorted.{IsSearchInRange, IsBinarySearchResult, IsPartitionPoint, IsSortedBy}
use Rattle.std.specs.Ordering.{is_lt, ordering_reverse, ordering_then, nat_cmp}
use Rattle.std.specs.Cmp.Lexicographic.{slice_cmp}
use Rattle.std.specs.declared.cmp.Ordering.{Ordering}
use Rattle.std.specs.declared.cmp.Ordering.TheVariants.{Less, Equal, Greater}
use Rattle.std.proofs.lemmas.Cmp.{alike_right}
use Rattle.std.proofs.lemmas.List.Sorted.{searchable_from_sorted}
use Rattle.hwdb_reader.specs.declared.view.Origin.{Origin}
use Rattle.hwdb_spec.specs.Assignment.{Position, Assignment, position_cmp, assignment_cmp, put}
use Rattle.std.specs.List.Sorted.{IsStrictlySortedBy}
use Rattle.hwdb_query.specs.Views.{Page, assignment_of_hit, assignments_of_hits}
use Rattle.hwdb_query.specs.Internal.Hits.{IsLastOfFull, IsPositionOf}
use Rattle.hwdb_query.specs.declared.hit.Hit.{Hit}
use Rattle.hwdb_query.proofs.PutLemmas.{put_less, put_same, put_more}
use Rattle.hwdb_query.proofs.PlaceLemmas.{founds_length}
use Rattle.hwdb_spec.specs.Lemmas.Places.{assignment_total, position_total}

abbrev position_of : Hit → Position
position_of h = (assignment_of_hit h).position

flipped : (x y : Assignment) (o : Ordering) → assignment_cmp x y ≡ o → assignment_cmp y x ≡ ordering_reverse o
flipped x y o e = assignment_total.antisymm y x ∙ ap ordering_reverse e

-- ascending hits are sorted
sorted : (hits : List Hit) → IsStrictlySortedBy assignment_cmp (assignments_of_hits hits) → IsSortedBy (λ a b. is_lt (position_cmp (position_of a) (position_of b))) hits
unfolding IsStrictlySortedBy assignment_cmp
sorted [] up k d le lt = absurd (omega arith)
sorted (h ∷ []) up k d le lt = absurd (omega arith)
sorted (h ∷ g ∷ hits) up zero d le lt = ap is_lt (position_total.antisymm (position_of g) (position_of h) ∙ ap ordering_reverse up.0.0)
sorted (h ∷ g ∷ hits) up (suc k) d le lt =
    let P : ℕ → Type 0 = λ m. is_lt (position_cmp (position_of (slice_index_or (h ∷ g ∷ hits) m d)) (position_of (slice_index_or (h ∷ g ∷ hits) (suc k) d))) ≡ false in
    let next : suc (k + 1) ≡ suc k + 1 = omega arith in
    subst P next (sorted (g ∷ hits) up.1 k d (omega arith) (omega arith))

-- if a hit ties with one of them, its place is taken
tied : (x : Assignment) (hits : List Hit) (i : ℕ) → IsStrictlySortedBy assignment_cmp (assignments_of_hits hits) → i < length hits → HoldsAt (λ y. assignment_cmp (assignment_of_hit y) x ≡ Equal) hits i → put assignment_cmp x (assignments_of_hits hits) ≡ assignments_of_hits hits
unfolding IsStrictlySortedBy
tied x [] i up lt at = absurd (omega arith)
tied x (h ∷ hits) zero up lt at = put_same assignment_cmp x (assignment_of_hit h) (assignments_of_hits hits) (flipped (assignment_of_hit h) x Equal (at h))
tied x (h ∷ hits) (suc i) up lt at =
    let below : assignment_cmp (assignment_of_hit h) x ≡ Less = reach hits i (omega arith) up.0 (λ d. at d) in
    put_more assignment_cmp x (assignment_of_hit h) (assignments_of_hits hits) (flipped (assignment_of_hit h) x Less below) ∙ ap (λ l. assignment_of_hit h ∷ l) (tied x hits i up.1 (omega arith) (λ d. at d))
  where
    reach : (hits : List Hit) (i : ℕ) → i < length hits → AllByRecursion (λ y. assignment_cmp (assignment_of_hit h) y ≡ Less) (assignments_of_hits hits) → HoldsAt (λ y. assignment_cmp (assignment_of_hit y) x ≡ Equal) hits i → assignment_cmp (assignment_of_hit h) x ≡ Less
    reach [] i lt all at = absurd (omega arith)
    reach (g ∷ hits) zero lt all at = sym (alike_right assignment_total (assignment_of_hit g) x (assignment_of_hit h) (at g)) ∙ all.0
    reach (g ∷ hits) (suc i) lt all at = reach hits i (omega arith) all.1 (λ d. at d)

-- if those before a place are below it, and those after above it, it is put there
between : (x : Assignment) (hits : List Hit) (i : ℕ) → i ≤ length hits → IsPartitionPoint (λ y. assignment_cmp (assignment_of_hit y) x ≡ Less) (λ y. assignment_cmp (assignment_of_hit y) x ≡ Greater) hits i
    → put assignment_cmp x (assignments_of_hits hits) ≡ take i (assignments_of_hits hits) ++ x ∷ drop i (assignments_of_hits hits)
unfolding put
between x [] zero le parted = refl
between x [] (suc i) le parted = absurd (omega arith)
between x (h ∷ hits) zero le parted = put_less assignment_cmp x (assignment_of_hit h) (assignments_of_hits hits) (flipped (assignment_of_hit h) x Greater (parted.1 0 h (omega arith) (omega arith)))
between x (h ∷ hits) (suc i) le parted =
    put_more assignment_cmp x (assignment_of_hit h) (assignments_of_hits hits) (flipped (assignment_of_hit h) x Less (parted.0 0 h (omega arith) (omega arith)))
    ∙ ap (λ l. assignment_of_hit h ∷ l) (between x hits i (omega arith) ((λ k d from lt. parted.0 (suc k) d (omega arith) (omega arith)), λ k d from lt. parted.1 (suc k) d (omega arith) (omega arith)))

-- what a search by halving says of the hits
pub found_taken : (x : Assignment) (hits : List Hit) (i : ℕ) → IsStrictlySortedBy assignment_cmp (assignments_of_hits hits) → i < length hits → HoldsAt (λ y. position_cmp (position_of y) x.position ≡ Equal) hits i
    → put assignment_cmp x (assignments_of_hits hits) ≡ assignments_of_hits hits
unfolding assignment_cmp
found_taken x hits i up lt at = tied x hits i up lt at

pub found_free : (x : Assignment) (hits : List Hit) (i : ℕ) (r : Result ℕ ℕ) → IsStrictlySortedBy assignment_cmp (assignments_of_hits hits) → r ≡ Err i → IsSearchInRange r (length hits) → IsBinarySearchResult (λ y. position_cmp (position_of y) x.position) hits r
    → put assignment_cmp x (assignments_of_hits hits) ≡ take i (assignments_of_hits hits) ++ x ∷ drop i (assignments_of_hits hits)
unfolding assignment_cmp
found_free x hits i r up is range result =
    between x hits i (subst (λ q. IsSearchInRange q (length hits)) is range)
    (subst (IsBinarySearchResult (λ y. position_cmp (position_of y) x.position) hits) is result (searchable_from_sorted position_total position_of hits x.position (sorted hits up)))

-- ---- full lists

-- a hit above the last is above all
all_below : (x : Assignment) (hits : List Hit) (n : ℕ) (h : Hit) → suc n ≡ length hits → h ≡ get_or hits n h → IsStrictlySortedBy assignment_cmp (assignments_of_hits hits) → assignment_cmp (assignment_of_hit h) x ≡ Less
    → AllByRecursion (λ y. assignment_cmp y x ≡ Less) (assignments_of_hits hits)
unfolding IsStrictlySortedBy
all_below x [] n h size at up less = absurd (omega (arith, size))
all_below x (g ∷ []) zero h size at up less = (subst (λ k. assignment_cmp (assignment_of_hit k) x ≡ Less) at less, tt)
all_below x (g ∷ []) (suc n) h size at up less = absurd (omega (arith, size))
all_below x (g ∷ f ∷ hits) zero h size at up less = absurd (omega (arith, size))
all_below x (g ∷ f ∷ hits) (suc n) h size at up less =
    let rest = all_below x (f ∷ hits) n h (omega (arith, size)) at up.1 less in
    (assignment_total.trans (assignment_of_hit g) (assignment_of_hit f) x up.0.0 rest.0, rest)

put_behind : (x : Assignment) (l : List Assignment) → AllByRecursion (λ y. assignment_cmp y x ≡ Less) l → put assignment_cmp x l ≡ l ++ x ∷ []
unfolding put
put_behind x [] all = refl
put_behind x (y ∷ ys) all = put_more assignment_cmp x y ys (flipped y x Less all.0) ∙ ap (λ l. y ∷ l) (put_behind x ys all.1)

cut_behind : (x : Assignment) (l : List Assignment) (most : ℕ) → most ≡ length l → take most (l ++ x ∷ []) ≡ l
cut_behind x [] zero e = refl
cut_behind x [] (suc most) e = absurd (omega (arith, e))
cut_behind x (y ∷ l) zero e = absurd (omega (arith, e))
cut_behind x (y ∷ l) (suc most) e = ap (λ r. y ∷ r) (cut_behind x l most (omega (arith, e)))

-- a full list stays as it is if a hit comes after its last
pub full_stays : (x : Assignment) (hits : List Hit) (last : Hit) (most : ℕ) → IsLastOfFull last hits most → length hits ≤ most → IsStrictlySortedBy assignment_cmp (assignments_of_hits hits) → assignment_cmp (assignment_of_hit last) x ≡ Less
    → take most (put assignment_cmp x (assignments_of_hits hits)) ≡ assignments_of_hits hits
full_stays x hits last most full le up less =
    let size : most ≡ length (assignments_of_hits hits) = omega (arith, full.full, le, founds_length hits) in
    ap (take most) (put_behind x (assignments_of_hits hits) (all_below x hits full.index last full.end full.is up less)) ∙ cut_behind x (assignments_of_hits hits) most size

-- as `full_stays`, of a list as contracts see it
pub full_page : (x : Assignment) (hits seen : List Hit) (last : Hit) (most : ℕ) (page : Page) → seen ≡ hits → record { hits = assignments_of_hits hits; most = most } ≡ page → length hits ≤ most → IsLastOfFull last seen most
    → IsStrictlySortedBy assignment_cmp page.hits → assignment_cmp (assignment_of_hit last) x ≡ Less → take page.most (put assignment_cmp x page.hits) ≡ page.hits
full_page x hits seen last most page same view le full up less =
    let shown : assignments_of_hits hits ≡ page.hits = ap (λ (p : Page). p.hits) view in
    subst (λ (p : Page). take p.most (put assignment_cmp x p.hits) ≡ p.hits) view
    (full_stays x hits last most (subst (λ l. IsLastOfFull last l most) same full) le (subst (IsStrictlySortedBy assignment_cmp) (sym shown) up) less)

-- ---- origins

pub earlier_first : (p q l m : ℕ) (rest : Ordering) → is_lt (ordering_then (nat_cmp p q) (nat_cmp l m)) ≡ true → ordering_then (nat_cmp p q) (ordering_then (nat_cmp l m) rest) ≡ Less
earlier_first p q l m rest h =
    elim (nat_cmp p q) as (λ o. is_lt (ordering_then o (nat_cmp l m)) ≡ true → ordering_then o (ordering_then (nat_cmp l m) rest) ≡ Less) [
      | Less ↦ λ k. refl
      | Equal ↦ λ k. elim (nat_cmp l m) as (λ o. is_lt o ≡ true → ordering_then o rest ≡ Less) [ Less ↦ λ j. refl | Equal ↦ λ j. cc | Greater ↦ λ j. cc ] k
      | Greater ↦ λ k. cc
    ] h

-- positions whose origins differ are told apart by these
pub origins_first : (a b : Origin) (x y : Position) → is_lt (ordering_then (nat_cmp a.priority b.priority) (nat_cmp a.line b.line)) ≡ true → IsPositionOf a x → IsPositionOf b y → position_cmp x y ≡ Less
unfolding position_cmp
origins_first a b x y h ia ib =
    let rest = ordering_then (slice_cmp nat_cmp x.pattern y.pattern) (slice_cmp nat_cmp x.key y.key) in
    (λ i. ordering_then (nat_cmp (ia.0 i) (ib.0 i)) (ordering_then (nat_cmp (ia.1 i) (ib.1 i)) rest)) ∙ earlier_first a.priority b.priority a.line b.line rest h
