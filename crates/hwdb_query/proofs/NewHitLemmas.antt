-- A hit that is put among others at a place below the most that may be held makes another list of them.
use Rattle.std.proofs.Common.{◌≡◌, ◌∙◌, ap, sym, refl, ℕ, zero, suc, ◌≤◌, ◌<◌, List, [], ◌∷◌, ◌++◌, take, drop, length, arith}
use Rattle.std.specs.Prelude.{slice_index_or}
use Rattle.std.specs.Ordering.{ordering_reverse}
use Rattle.std.specs.declared.cmp.Ordering.{Ordering}
use Rattle.std.specs.declared.cmp.Ordering.TheVariants.{Less, Equal, Greater}
use Rattle.std.specs.List.Sorted.{IsStrictlySortedBy}
use Rattle.hwdb_spec.specs.Assignment.{Assignment, position_cmp, assignment_cmp, put}
use Rattle.hwdb_query.specs.Views.{assignment_of_hit, assignments_of_hits}
use Rattle.hwdb_query.specs.declared.hit.Hit.{Hit}
use Rattle.hwdb_query.proofs.HalvingLemmas.{found_taken}
use Rattle.hwdb_query.proofs.PlaceLemmas.{founds_length}
use Rattle.hwdb_spec.specs.Lemmas.Places.{position_total}

one_longer : {A : Type 0} (i : ℕ) (x : A) (l : List A) → i ≤ length l → length (take i l ++ x ∷ drop i l) ≡ suc (length l)
one_longer zero x l le = refl
one_longer (suc i) x [] le = absurd (omega arith)
one_longer (suc i) x (y ∷ l) le = ap suc (one_longer i x l (omega arith))

stands_at : {A : Type 0} (i most : ℕ) (x d : A) (l : List A) → i ≤ length l → i < most → slice_index_or (take most (take i l ++ x ∷ drop i l)) i d ≡ x
stands_at i zero x d l le lt = absurd (omega arith)
stands_at zero (suc most) x d l le lt = refl
stands_at (suc i) (suc most) x d [] le lt = absurd (omega arith)
stands_at (suc i) (suc most) x d (y ∷ l) le lt = stands_at i most x d l (omega arith) (omega arith)

cut_short : {A : Type 0} (n : ℕ) (p l : List A) → length p ≡ suc (length l) → take n p ≡ l → n ≤ length l
cut_short zero p l size e = omega arith
cut_short (suc n) [] l size e = absurd (omega (arith, size))
cut_short (suc n) (y ∷ p) [] size e = absurd (omega (arith, ap length e))
cut_short (suc n) (y ∷ p) (z ∷ l) size e = let less = cut_short n p l (omega (arith, size)) (ap (drop 1) e) in omega (arith, less)

shown_index : (hits : List Hit) (i : ℕ) (d : Hit) → assignment_of_hit (slice_index_or hits i d) ≡ slice_index_or (assignments_of_hits hits) i (assignment_of_hit d)
shown_index [] i d = refl
shown_index (h ∷ hits) zero d = refl
shown_index (h ∷ hits) (suc i) d = shown_index hits i d

self_equal : (o : Ordering) → o ≡ ordering_reverse o → o ≡ Equal
self_equal Less e = cc
self_equal Equal e = refl
self_equal Greater e = cc

-- a list that keeps all it may hold isn't the one before, if the new hit is below the most
pub not_kept : (x : Assignment) (hits : List Hit) (i most : ℕ) → IsStrictlySortedBy assignment_cmp (assignments_of_hits hits) → i ≤ length hits → i < most
    → put assignment_cmp x (assignments_of_hits hits) ≡ take i (assignments_of_hits hits) ++ x ∷ drop i (assignments_of_hits hits)
    → take most (put assignment_cmp x (assignments_of_hits hits)) ≡ assignments_of_hits hits → ⊥
not_kept x hits i most up le lt place same =
    let o = assignments_of_hits hits in
    let count : length o ≡ length hits = founds_length hits in
    let within : i ≤ length o = omega (arith, count) in
    let longer : length (put assignment_cmp x o) ≡ suc (length o) = ap length place ∙ one_longer i x o within in
    let few : most ≤ length o = cut_short most (put assignment_cmp x o) o longer same in
    let at : (d : Hit) → x ≡ assignment_of_hit (slice_index_or hits i d) =
    λ d. sym (stands_at i most x (assignment_of_hit d) o within lt) ∙ ap (λ l. slice_index_or (take most l) i (assignment_of_hit d)) (sym place)
    ∙ ap (λ l. slice_index_or l i (assignment_of_hit d)) same ∙ sym (shown_index hits i d) in
    let tie : (d : Hit) → position_cmp (assignment_of_hit (slice_index_or hits i d)).position x.position ≡ Equal =
    λ d. ap (λ (y : Assignment). position_cmp y.position x.position) (sym (at d)) ∙ self_equal (position_cmp x.position x.position) (position_total.antisymm x.position x.position) in
    let taken : put assignment_cmp x o ≡ o = found_taken x hits i up (omega (arith, few, count)) tie in
    omega (arith, longer, ap length taken)
