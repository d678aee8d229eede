-- Hexadecimal digits, piece by piece.
use Rattle.std.proofs.Common.{◌≡◌, ◌==◌, ◌∙◌, Bool, true, length, ap, sym, refl, List, ℕ, [], ◌∷◌, ◌++◌, ◌/◌, ◌%◌, take, drop, append_assoc, arith, eqb-true}
use Rattle.std.specs.Prelude.{slice_index}
use Rattle.std.proofs.lemmas.List.{take-append-drop, append-nil}
use Rattle.hex.specs.Hex.{encode_with, encode_lower, lower_digits}

digits_joined : (t xs ys : List ℕ) → encode_with t (xs ++ ys) ≡ encode_with t xs ++ encode_with t ys
unfolding encode_with
digits_joined t [] ys = refl
digits_joined t (b ∷ xs) ys = ap (λ l. slice_index t (b / 16) ∷ slice_index t (b % 16) ∷ l) (digits_joined t xs ys)

-- one piece was added to what is done
pub piece_done : (done text piece behind rest all out : List ℕ) (n : ℕ) → piece ≡ take n rest → behind ≡ drop n rest → out ≡ encode_lower piece → text ≡ done ++ out
    → done ++ encode_lower rest ≡ all → text ++ encode_lower behind ≡ all
piece_done done text piece behind rest all out n front back digits is whole =
    ap (λ l. l ++ encode_lower behind) (is ∙ ap (λ l. done ++ l) digits) ∙ append_assoc done (encode_lower piece) (encode_lower behind)
    ∙ ap (λ l. done ++ l) (sym (digits_joined lower_digits piece behind) ∙ ap encode_lower (ap (λ l. l ++ behind) front ∙ ap (λ l. take n rest ++ l) back ∙ take-append-drop n rest))
    ∙ whole

-- no byte is left
pub all_done : (text rest all : List ℕ) (b : Bool) → b ≡ (length rest == 0) → b ≡ true → text ++ encode_lower rest ≡ all → text ≡ all
unfolding encode_with
all_done text [] all b is left whole = sym (append-nil text) ∙ whole
all_done text (x ∷ rest) all b is left whole = absurd (omega (arith, eqb-true (length (x ∷ rest)) 0 (sym is ∙ left)))
