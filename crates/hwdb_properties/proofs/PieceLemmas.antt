-- A text that is added in two pieces.
use Rattle.std.proofs.Common.{◌≡◌, ◌∙◌, ◌++◌, ℕ, List, ap, append_assoc}

pub two_pieces : (a b c lit w v : List ℕ) → b ≡ a ++ lit → c ≡ b ++ w → w ≡ v → c ≡ a ++ (lit ++ v)
two_pieces a b c lit w v e f g = f ∙ ap (λ (l : List ℕ). l ++ w) e ∙ append_assoc a lit w ∙ ap (λ (l : List ℕ). a ++ (lit ++ l)) g
