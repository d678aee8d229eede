-- Lists, one member after another.
use Rattle.std.proofs.Common.{◌≡◌, ◌∙◌, ap, sym, refl, ℕ, List, [], ◌∷◌, ◌++◌, append_assoc, map, reverse}
use Rattle.std.proofs.lemmas.Grind.{flat_map-append}
use Rattle.std.proofs.lemmas.List.{append-nil, map_push, reverse-append}
use Rattle.std.specs.Prelude.{flat_map}

module _ {A B : Type 0} (f : A → B) where
  pub map-reverse : (xs : List A) → map f (reverse xs) ≡ reverse (map f xs)
  map-reverse [] = refl
  map-reverse (x ∷ xs) =
      ap (map f) (reverse-append (x ∷ []) xs) ∙ map_push f (reverse xs) x ∙ ap (λ l. l ++ f x ∷ []) (map-reverse xs)
      ∙ sym (reverse-append (f x ∷ []) (map f xs))

-- one more member's lines, after a text
pub lines_more : {B : Type 0} (f : B → List ℕ) (text before after : List ℕ) (done more : List B) (one : B) → more ≡ done ++ one ∷ []
    → before ≡ text ++ flat_map f done → after ≡ before ++ f one → after ≡ text ++ flat_map f more
lines_more f text before after done more one are so_far pushed =
    pushed ∙ ap (λ l. l ++ f one) so_far ∙ append_assoc text (flat_map f done) (f one)
    ∙ ap (λ l. text ++ (flat_map f done ++ l)) (sym (append-nil (f one)))
    ∙ ap (λ l. text ++ l) (sym (flat_map-append f done (one ∷ [])))
    ∙ ap (λ l. text ++ flat_map f l) (sym are)
