-- Pieces, one after the other.
use Rattle.std.proofs.Common.{◌≡◌, ℕ, zero, suc, ◌-◌, ◌<◌, true, false, List, [], ◌∷◌, ◌++◌, drop, length, refl, sym, ap, ◌∙◌, arith, Option, Some, None, append_assoc, ◌==◌, get_or, take}
use Rattle.std.proofs.lemmas.List.{take_all}
use Rattle.std.proofs.lemmas.Bool.Decides.{nat_tests}
use Rattle.hwdb_ruleevents.specs.Pieces.{Head, Piece, before, first_pieces, head_of}

is_zero : (n : ℕ) → (n == 0) ≡ true → n ≡ 0
is_zero n h = grind (arith, nat_tests)

pub none_left : (n : ℕ) (text : List ℕ) → (length text == 0) ≡ true → first_pieces n text ≡ []
unfolding first_pieces
none_left zero text h = refl
none_left (suc n) [] h = refl
none_left (suc n) (b ∷ rest) h = absurd (omega (arith, is_zero (length (b ∷ rest)) h))

pub no_more : (n : ℕ) (text : List ℕ) → n ≡ 0 → first_pieces n text ≡ []
unfolding first_pieces
no_more n text e = ap (λ (k : ℕ). first_pieces k text) e

one_more : (m n : ℕ) (text rest : List ℕ) (b : ℕ) → n ≡ suc m → text ≡ b ∷ rest
    → first_pieces n text ≡ before (head_of b rest) (λ len. first_pieces m (drop len (b ∷ rest)))
unfolding first_pieces
one_more m n text rest b e t = ap (λ (k : ℕ). first_pieces k text) e ∙ ap (first_pieces (suc m)) t

pub one_end : (n : ℕ) (text rest : List ℕ) (b : ℕ) → 0 < n → text ≡ b ∷ rest → head_of b rest ≡ None → first_pieces n text ≡ []
one_end n text rest b h t e =
    one_more (n - 1) n text rest b (omega arith) t
    ∙ ap (λ (p : Option Head). before p (λ len. first_pieces (n - 1) (drop len (b ∷ rest)))) e

pub one_piece : (out next : List Piece) (p : Head) (n : ℕ) (text rest more : List ℕ) (b : ℕ) → 0 < n → text ≡ b ∷ rest → head_of b rest ≡ Some p
    → next ≡ out ++ (p.piece ∷ []) → more ≡ drop p.len text → next ++ first_pieces (n - 1) more ≡ out ++ first_pieces n text
one_piece out next p n text rest more b h t e o m =
    ap (λ (l : List Piece). l ++ first_pieces (n - 1) more) o
    ∙ append_assoc out (p.piece ∷ []) (first_pieces (n - 1) more)
    ∙ ap (λ (l : List Piece). out ++ l)
    (ap (λ (l : List ℕ). p.piece ∷ first_pieces (n - 1) l) (m ∙ ap (drop p.len) t)
    ∙ sym (one_more (n - 1) n text rest b (omega arith) t ∙ ap (λ (q : Option Head). before q (λ len. first_pieces (n - 1) (drop len (b ∷ rest)))) e))

pub split : (text : List ℕ) → (length text == 0) ≡ false → text ≡ get_or text 0 0 ∷ take (length text - 1) (drop 1 text)
split [] h = cc
split (b ∷ rest) h = ap (λ (l : List ℕ). b ∷ l) (sym (take_all (length (b ∷ rest) - 1) rest (omega arith)))
