-- Texts sorted, each once, are as many as the different ones.
use Rattle.std.proofs.Common.{◌≡◌, ◌∙◌, ap, sym, refl, ℕ, zero, suc, ◌+◌, ◌<◌, List, [], ◌∷◌, map, length, get_or, arith, true, false, cond}
use Rattle.std.proofs.lemmas.List.{length-map}
use Rattle.std.proofs.lemmas.List.Sorted.{IsPermutation-map}
use Rattle.std.specs.List.{dedup, dedup_from}
use Rattle.std.specs.List.Sorted.{IsPermutation, IsSorted}
use Rattle.std.specs.Ordering.{is_lt}
use Rattle.hwdb_spec.specs.Assignment.{ascending, text_cmp}
use Rattle.hwdb_spec_commands.specs.Summary.{different}
use Rattle.hwdb_text.specs.Lemmas.Ascending.{deduped, ordered_is, same_bytes}

module _ {X : Type 0} (text : X → List ℕ) where
  text_at : (xs : List X) (k : ℕ) (d : List ℕ) (e : X) → k < length xs → get_or (map text xs) k d ≡ text (get_or xs k e)
  text_at [] k d e h = absurd (omega (arith, h))
  text_at (x ∷ xs) zero d e h = refl
  text_at (x ∷ xs) (suc k) d e h = text_at xs k d e (omega (arith, h))

  texts_sorted : (xs : List X) → IsSorted (λ x y. text_cmp (text x) (text y)) xs → IsSorted text_cmp (map text xs)
  texts_sorted [] h = λ k d low high. absurd (omega (arith, high))
  texts_sorted (x ∷ xs) h = λ k d low high.
      let size : length (map text (x ∷ xs)) ≡ length (x ∷ xs) = length-map (x ∷ xs) text in
      let next = text_at (x ∷ xs) (k + 1) d x (omega (arith, size, high)) in
      let here = text_at (x ∷ xs) k d x (omega (arith, size, high)) in
      ap (λ (g : List ℕ × List ℕ). is_lt (text_cmp g.0 g.1)) (λ i. (next i, here i)) ∙ h k x low (omega (arith, size, high))

  from_texts : (x : X) (xs : List X) → map text (dedup_from (λ a b. same_bytes (text a) (text b)) x xs) ≡ dedup_from same_bytes (text x) (map text xs)
  from_texts x [] = refl
  from_texts x (y ∷ ys) =
      elim (same_bytes (text y) (text x)) as (λ b. map text (cond b (dedup_from (λ a b. same_bytes (text a) (text b)) x ys) (x ∷ dedup_from (λ a b. same_bytes (text a) (text b)) y ys))
      ≡ cond b (dedup_from same_bytes (text x) (map text ys)) (text x ∷ dedup_from same_bytes (text y) (map text ys))) [
        | true ↦ from_texts x ys
        | false ↦ ap (λ l. text x ∷ l) (from_texts y ys)
      ]

  pub texts_dedup : (xs : List X) → map text (dedup (λ a b. same_bytes (text a) (text b)) xs) ≡ dedup same_bytes (map text xs)
  texts_dedup [] = refl
  texts_dedup (x ∷ xs) = from_texts x xs

  -- what a sort and a dedup leave
  pub ordered_are : (old sorted new : List X) → IsPermutation old sorted → IsSorted (λ x y. text_cmp (text x) (text y)) sorted
      → new ≡ dedup (λ a b. same_bytes (text a) (text b)) sorted → map text new ≡ ascending (map text old)
  ordered_are old sorted new moved up left =
      ordered_is (map text old) (map text sorted) (map text new) (IsPermutation-map text old sorted moved) (texts_sorted sorted up) (ap (map text) left ∙ texts_dedup sorted)

  pub different_are : (old sorted new : List X) → IsPermutation old sorted → IsSorted (λ x y. text_cmp (text x) (text y)) sorted
      → new ≡ dedup (λ a b. same_bytes (text a) (text b)) sorted → length new ≡ different (map text old)
  different_are old sorted new moved up left = sym (length-map new text) ∙ ap length (ordered_are old sorted new moved up left)

  -- what a dedup alone leaves
  pub different_left : (old new : List X) → new ≡ dedup (λ a b. same_bytes (text a) (text b)) old → different (map text new) ≡ different (map text old)
  different_left old new e = ap length (ap ascending (ap (map text) e ∙ texts_dedup old) ∙ deduped (map text old))
