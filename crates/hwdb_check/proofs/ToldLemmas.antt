-- Of each finding of a rules file what is told.
use Rattle.std.proofs.Common.{◌≡◌, ◌<◌, ◌+◌, ◌∙◌, ◌++◌, ℕ, Bool, List, [], ◌∷◌, ap, append_assoc, drop, get_or, length, sym}
use Rattle.std.specs.Prelude.{filter, flat_map}
use Rattle.std.proofs.lemmas.List.{drop_more}
use Rattle.std.proofs.lemmas.List.Elements.{filter-append}
use Rattle.std.proofs.lemmas.Grind.{flat_map-append}

module _ {A B : Type 0} (one : A → List B) (test : A → Bool) where
  -- what is kept of the first, and of the others
  first_kept : (x : A) (rest : List A) → flat_map one (filter test (x ∷ [])) ++ flat_map one (filter test rest) ≡ flat_map one (filter test (x ∷ rest))
  first_kept x rest = sym (flat_map-append one (filter test (x ∷ [])) (filter test rest)) ∙ ap (flat_map one) (sym (filter-append test (x ∷ []) rest))

  -- one more is told, if it is kept
  pub told_step : (xs : List A) (i : ℕ) (d : A) (before after whole : List B) → i < length xs → after ≡ before ++ flat_map one (filter test (get_or xs i d ∷ []))
      → before ++ flat_map one (filter test (drop i xs)) ≡ whole → after ++ flat_map one (filter test (drop (i + 1) xs)) ≡ whole
  told_step xs i d before after whole h grown so_far =
      let x = get_or xs i d in
      let rest = drop (i + 1) xs in
      ap (λ (l : List B). l ++ flat_map one (filter test rest)) grown
      ∙ append_assoc before (flat_map one (filter test (x ∷ []))) (flat_map one (filter test rest))
      ∙ ap (λ (l : List B). before ++ l) (first_kept x rest)
      ∙ ap (λ (l : List A). before ++ flat_map one (filter test l)) (sym (drop_more xs i d h))
      ∙ so_far
