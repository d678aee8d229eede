-- Texts in order, each once: what `ascending`, a sort and a dedup make of a list.
use Rattle.std.proofs.Common.{◌≡◌, ℕ, List, [], ◌∷◌, Bool, nat_eq, sym, subst, inl, inr, ⊎_elim}
use Rattle.std.specs.List.{dedup}
use Rattle.std.specs.List.Sorted.{IsStrictlySortedBy, IsSorted, IsPermutation}
use Rattle.std.specs.Cmp.Lexicographic.{pointwise, nat_list_cmp_total, nat_list_eq_equiv, texts_ties, same_text}
use Rattle.std.specs.FinMap.{slice_cmp-IsAntisymmetric, nat_cmp-IsAntisymmetric}
use Rattle.std.proofs.lemmas.List.Kept.{IsStrictlySortedBy-dedup, Any-dedup, Contains-from_dedup}
use Rattle.std.proofs.lemmas.List.Sorted.{Contains-permutation, IsPermutation-sym}
use Rattle.hwdb_spec.specs.Assignment.{ascending, text_cmp}
use Rattle.hwdb_text.specs.Lemmas.Members.{Holds, held, holds_it, held_before, held_behind, nothing_ordered, one_list as one_by_members, put_ordered}

abbrev Text : Type 0
Text = List ℕ

abbrev pub IsOrdered : List Text → Type 0
IsOrdered = IsStrictlySortedBy text_cmp

-- texts in order are determined by which they are
pub one_list : (xs ys : List Text) → IsOrdered xs → IsOrdered ys → ((s : Text) → Holds xs s → Holds ys s) → ((s : Text) → Holds ys s → Holds xs s) → xs ≡ ys
one_list xs ys p q f g = one_by_members text_cmp nat_list_cmp_total xs ys p q f g

pub ascending_ordered : (ss : List Text) → IsOrdered (ascending ss)
unfolding ascending
ascending_ordered [] = nothing_ordered text_cmp nat_list_cmp_total
ascending_ordered (s ∷ ss) = put_ordered text_cmp nat_list_cmp_total s (ascending ss) (ascending_ordered ss)

pub holds_ascending : (ss : List Text) (u : Text) → Holds ss u → Holds (ascending ss) u
unfolding ascending
holds_ascending [] u h = h
holds_ascending (s ∷ ss) u h =
    held_behind text_cmp nat_list_cmp_total s (ascending ss) u (λ t k e. slice_cmp-IsAntisymmetric nat_cmp-IsAntisymmetric s t e)
    (⊎_elim {C = Holds (s ∷ ascending ss) u} (λ e. inl e) (λ r. inr (holds_ascending ss u r)) h)

pub ascending_holds : (ss : List Text) (u : Text) → Holds (ascending ss) u → Holds ss u
unfolding ascending
ascending_holds [] u h = h
ascending_holds (s ∷ ss) u h =
    ⊎_elim {C = Holds (s ∷ ss) u} (λ e. inl e) (λ r. inr (ascending_holds ss u r)) (held_before text_cmp nat_list_cmp_total s (ascending ss) u h)

abbrev pub same_bytes : Text → Text → Bool
same_bytes = pointwise nat_eq

-- a dedup loses no text
none_lost : (xs : List Text) (s : Text) → Holds xs s → Holds (dedup same_bytes xs) s
none_lost xs s h =
    let a = Any-dedup nat_list_eq_equiv xs s (held xs s h) in
    let Q : Text → Type 0 = λ t. Holds (dedup same_bytes xs) t in
    subst Q (sym (same_text s a.1 (sym a.4))) (holds_it (dedup same_bytes xs) a.1 (a.0, a.2, a.3))

none_new : (xs : List Text) (s : Text) → Holds (dedup same_bytes xs) s → Holds xs s
none_new xs s h = holds_it xs s (Contains-from_dedup same_bytes xs s (held (dedup same_bytes xs) s h))

pub deduped : (xs : List Text) → ascending (dedup same_bytes xs) ≡ ascending xs
deduped xs =
    let left = dedup same_bytes xs in
    one_list (ascending left) (ascending xs) (ascending_ordered left) (ascending_ordered xs)
    (λ s h. holds_ascending xs s (none_new xs s (ascending_holds left s h)))
    (λ s h. holds_ascending left s (none_lost xs s (ascending_holds xs s h)))

-- what a sort and a dedup leave
module _ (old sorted new : List Text) (moved : IsPermutation old sorted) (up : IsSorted text_cmp sorted) (left : new ≡ dedup same_bytes sorted) where
  kept : (s : Text) → Holds old s → Holds new s
  kept s h =
      let c = Contains-permutation old sorted s moved (held old s h) in
      let P : List Text → Type 0 = λ xs. Holds xs s in
      subst P (sym left) (none_lost sorted s (holds_it sorted s c))

  back : (s : Text) → Holds new s → Holds old s
  back s h =
      let P : List Text → Type 0 = λ xs. Holds xs s in
      let f = none_new sorted s (subst P left h) in
      holds_it old s (Contains-permutation sorted old s (IsPermutation-sym old sorted moved) (held sorted s f))

  in_order : IsOrdered new
  in_order = subst IsOrdered (sym left) (IsStrictlySortedBy-dedup nat_list_cmp_total texts_ties sorted up)

  pub ordered_is : new ≡ ascending old
  ordered_is =
      one_list new (ascending old) in_order (ascending_ordered old) (λ s h. holds_ascending old s (back s h)) (λ s h. kept s (ascending_holds old s h))
