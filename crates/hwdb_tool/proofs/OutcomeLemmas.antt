-- What is printed and stored of one thing.
use Rattle.std.proofs.Common.{◌≡◌, ℕ, List, [], ap, ◌∙◌, sym, Option, Some}
use Rattle.std.specs.Option.{option_map_or}

-- an option holds one thing
pub one_held : (o : Option (List ℕ)) (a b : List ℕ) → o ≡ Some a → o ≡ Some b → a ≡ b
one_held o a b one two = ap (λ (p : Option (List ℕ)). option_map_or (λ (x : List ℕ). x) p []) (sym one ∙ two)
