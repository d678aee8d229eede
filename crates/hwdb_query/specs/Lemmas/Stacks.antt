-- A stack as a list whose last member is the top, and a path that grows with it.
use Rattle.std.proofs.Common.{◌≡◌, ◌∙◌, ap, sym, ℕ, List, [], ◌∷◌, ◌++◌, take, reverse, length, arith}
use Rattle.std.proofs.lemmas.List.{reverse-append, take-append-le}
use Rattle.std.proofs.Math.Seq.{take-length}

pub on_top : {A : Type 0} (before : List A) (top : A) → reverse (before ++ top ∷ []) ≡ top ∷ reverse before
on_top before top = reverse-append before (top ∷ [])

pub take_front : (n : ℕ) (xs ys : List ℕ) → length xs ≡ n → take n (xs ++ ys) ≡ xs
take_front n xs ys h = take-append-le n xs ys (omega (arith, h)) ∙ ap (λ k. take k xs) (sym h) ∙ take-length xs
