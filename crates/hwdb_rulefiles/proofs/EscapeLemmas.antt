-- Escapes, piece by piece.
use Rattle.std.proofs.Common.{◌≡◌, ℕ, zero, suc, ◌+◌, ◌-◌, ◌<◌, Bool, true, false, List, [], ◌∷◌, ◌++◌, drop, length, refl, sym, ap, ◌∙◌, arith, Option, Some, None, append_assoc, append-nil, ◌==◌, get_or, take}
use Rattle.std.proofs.lemmas.List.{take_all}
use Rattle.std.proofs.lemmas.Bool.Decides.{nat_tests}
use Rattle.hwdb_rulefiles.specs.Escapes.{Piece, piece_of, bytes_of, onto, followed, first_pieces}

is_zero : (n : ℕ) → (n == 0) ≡ true → n ≡ 0
is_zero n h = grind (arith, nat_tests)

pub none_left : (n : ℕ) (text : List ℕ) → (length text == 0) ≡ true → first_pieces n text ≡ Some []
unfolding first_pieces
none_left zero text h = refl
none_left (suc n) [] h = refl
none_left (suc n) (b ∷ rest) h = absurd (omega (arith, is_zero (length (b ∷ rest)) h))

pub no_more : (n : ℕ) (text : List ℕ) → n ≡ 0 → first_pieces n text ≡ Some []
unfolding first_pieces
no_more n text e = ap (λ (k : ℕ). first_pieces k text) e

pub onto_none : (out : List ℕ) → onto out (Some []) ≡ Some out
onto_none out = ap Some (append-nil out)

pub onto_onto : (a b : List ℕ) (x : Option (List ℕ)) → onto (a ++ b) x ≡ onto a (onto b x)
onto_onto a b None = refl
onto_onto a b (Some l) = ap Some (append_assoc a b l)

one_more : (m n : ℕ) (text rest : List ℕ) (b : ℕ) → n ≡ suc m → text ≡ b ∷ rest
    → first_pieces n text ≡ followed (piece_of b rest) (λ len. first_pieces m (drop len (b ∷ rest)))
unfolding first_pieces
one_more m n text rest b e t = ap (λ (k : ℕ). first_pieces k text) e ∙ ap (first_pieces (suc m)) t

pub one_bad : (n : ℕ) (text rest : List ℕ) (b : ℕ) → 0 < n → text ≡ b ∷ rest → piece_of b rest ≡ None → first_pieces n text ≡ None
one_bad n text rest b h t e =
    one_more (n - 1) n text rest b (omega arith) t
    ∙ ap (λ (p : Option Piece). followed p (λ len. first_pieces (n - 1) (drop len (b ∷ rest)))) e

pub one_piece : (out next : List ℕ) (p : Piece) (n : ℕ) (text rest more : List ℕ) (b : ℕ) → 0 < n → text ≡ b ∷ rest → piece_of b rest ≡ Some p
    → next ≡ out ++ bytes_of p → more ≡ drop p.len text → onto next (first_pieces (n - 1) more) ≡ onto out (first_pieces n text)
one_piece out next p n text rest more b h t e o m =
    ap (λ (l : List ℕ). onto l (first_pieces (n - 1) more)) o
    ∙ onto_onto out (bytes_of p) (first_pieces (n - 1) more)
    ∙ ap (onto out)
    (ap (λ (l : List ℕ). onto (bytes_of p) (first_pieces (n - 1) l)) (m ∙ ap (drop p.len) t)
    ∙ sym (one_more (n - 1) n text rest b (omega arith) t ∙ ap (λ (q : Option Piece). followed q (λ len. first_pieces (n - 1) (drop len (b ∷ rest)))) e))

pub split : (text : List ℕ) → (length text == 0) ≡ false → text ≡ get_or text 0 0 ∷ take (length text - 1) (drop 1 text)
split [] h = cc
split (b ∷ rest) h = ap (λ (l : List ℕ). b ∷ l) (sym (take_all (length (b ∷ rest) - 1) rest (omega arith)))
