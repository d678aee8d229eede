-- Five pieces, one after another.
use Rattle.std.proofs.Common.{◌≡◌, ◌∙◌, ◌++◌, ap, append_assoc, List, ℕ}

pub five_pieces : (t a w b k e t1 t2 t3 t4 t5 : List ℕ) → t1 ≡ t ++ a → t2 ≡ t1 ++ w → t3 ≡ t2 ++ b → t4 ≡ t3 ++ k → t5 ≡ t4 ++ e
    → t5 ≡ t ++ (a ++ (w ++ (b ++ (k ++ e))))
five_pieces t a w b k e t1 t2 t3 t4 t5 h1 h2 h3 h4 h5 =
    h5
    ∙ ap (λ l. l ++ e) (h4 ∙ ap (λ l. l ++ k) (h3 ∙ ap (λ l. l ++ b) (h2 ∙ ap (λ l. l ++ w) h1)))
    ∙ append_assoc (((t ++ a) ++ w) ++ b) k e
    ∙ append_assoc ((t ++ a) ++ w) b (k ++ e)
    ∙ append_assoc (t ++ a) w (b ++ (k ++ e))
    ∙ append_assoc t a (w ++ (b ++ (k ++ e)))
