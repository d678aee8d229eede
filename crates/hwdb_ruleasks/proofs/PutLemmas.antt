-- Changes that are put one after the other.
use Rattle.std.proofs.Common.{◌≡◌, ◌∙◌, ap, List, [], ◌∷◌, ◌++◌, append_assoc}
use Rattle.hwdb_ruleevents.specs.Changes.{Change}

-- two of them
pub two_put : (xs ys zs : List Change) (a b : Change) → ys ≡ xs ++ (a ∷ []) → zs ≡ ys ++ (b ∷ []) → zs ≡ xs ++ (a ∷ (b ∷ []))
two_put xs ys zs a b e f = f ∙ ap (λ (l : List Change). l ++ (b ∷ [])) e ∙ append_assoc xs (a ∷ []) (b ∷ [])
