-- To look for more rows or pieces than there are bytes changes nothing.
use Rattle.std.proofs.Common.{◌≡◌, ℕ, zero, suc, ◌+◌, ◌≤◌, Bool, true, false, List, [], ◌∷◌, take, drop, length, refl, sym, ap, arith, Option, Some, None, ◌==◌, subst}
use Rattle.std.proofs.lemmas.List.{length-drop}
use Rattle.std.proofs.lemmas.Bool.Decides.{nat_tests}
use Rattle.hwdb_rulefiles.specs.RuleText.{first_rows, after_row, row_len, end_len, one_if, ends_row}
use Rattle.std.specs.Prelude.{if◌then◌else◌, nat_lt}
use Rattle.hwdb_spec.specs.Lines.{byte, begins_with}
use Rattle.hwdb_rulefiles.specs.Escapes.{Piece, piece, piece_of, first_pieces, followed, onto, bytes_of, coded, coded_byte, coded_character, lettered, letter, first, escape_of, hex_byte, hex_four, hex_eight, octal_three, valid}
use Rattle.hwdb_rulefiles.specs.RuleLaws.{MoreChangesNothing}

one_ends : (b : ℕ) (rest : List ℕ) → ends_row b ≡ true → 1 ≤ end_len (b ∷ rest)
one_ends b rest h = grind (arith, nat_tests)

more : (n : ℕ) → 1 ≤ n → 1 ≤ 0 + n
more n h = omega arith

row_or_end : (b : ℕ) (rest : List ℕ) → 1 ≤ row_len (b ∷ rest) + end_len (drop (row_len (b ∷ rest)) (b ∷ rest))
row_or_end b rest = by (ends_row b) refl
  where
    by : (e : Bool) → ends_row b ≡ e → 1 ≤ row_len (b ∷ rest) + end_len (drop (row_len (b ∷ rest)) (b ∷ rest))
    by true h =
        let none : row_len (b ∷ rest) ≡ 0 = rw h refl in
        subst (λ (n : ℕ). 1 ≤ n + end_len (drop n (b ∷ rest))) (sym none) (more (end_len (b ∷ rest)) (one_ends b rest h))
    by false h =
        let some : row_len (b ∷ rest) ≡ 1 + row_len rest = rw h refl in
        omega (arith, some)

shorter : (b : ℕ) (rest : List ℕ) → length (after_row (b ∷ rest)) ≤ length rest
shorter b rest =
    let r = row_len (b ∷ rest) in
    let e = end_len (drop r (b ∷ rest)) in
    let one : 1 ≤ r + e = row_or_end b rest in
    let p = length-drop e (drop r (b ∷ rest)) in
    let q = length-drop r (b ∷ rest) in
    omega (arith, p, q, one)

rows_alike : (n m : ℕ) (text : List ℕ) → length text ≤ n → length text ≤ m → first_rows n text ≡ first_rows m text
unfolding first_rows
rows_alike zero zero text h k = refl
rows_alike zero (suc m) [] h k = refl
rows_alike zero (suc m) (b ∷ rest) h k = absurd (omega arith)
rows_alike (suc n) zero [] h k = refl
rows_alike (suc n) zero (b ∷ rest) h k = absurd (omega arith)
rows_alike (suc n) (suc m) [] h k = refl
rows_alike (suc n) (suc m) (b ∷ rest) h k =
    let s = shorter b rest in
    ap (λ (l : List (List ℕ)). take (row_len (b ∷ rest)) (b ∷ rest) ∷ l) (rows_alike n m (after_row (b ∷ rest)) (omega (arith, s)) (omega (arith, s)))

abbrev HasLen : Option Piece → Type 0
HasLen None = Unit {0}
HasLen (Some p) = 1 ≤ p.len

if_len : (c : Bool) (x y : Option Piece) → HasLen x → HasLen y → HasLen (if c then x else y)
if_len true x y h k = h
if_len false x y h k = k

piece_len : (code : ℕ) (wide : Bool) (n : ℕ) → 1 ≤ n → HasLen (piece code wide n)
piece_len code wide n h = h

coded_byte_len : (o : Option ℕ) → HasLen (coded_byte o)
coded_byte_len None = tt
coded_byte_len (Some b) = if_len (b == 0) None _ tt (if_len (nat_lt 255 b) None (piece b false 4) tt (omega arith))

coded_character_len : (o : Option ℕ) (n : ℕ) → 1 ≤ n → HasLen (coded_character o n)
coded_character_len None n h = tt
coded_character_len (Some c) n h = if_len (c == 0) None (piece c true n) tt h

coded_len : (text : List ℕ) → HasLen (coded text)
coded_len text =
    if_len (begins_with (byte "x") text) (coded_byte (hex_byte (drop 1 text))) _ (coded_byte_len (hex_byte (drop 1 text)))
    (if_len (begins_with (byte "u") text) (coded_character (hex_four (drop 1 text)) 6) _ (coded_character_len (hex_four (drop 1 text)) 6 (omega arith))
    (if_len (begins_with (byte "U") text) (coded_character (valid (hex_eight (drop 1 text))) 10) (coded_byte (octal_three text))
    (coded_character_len (valid (hex_eight (drop 1 text))) 10 (omega arith)) (coded_byte_len (octal_three text))))

lettered_len : (o : Option ℕ) (other : Option Piece) → HasLen other → HasLen (lettered o other)
lettered_len None other h = h
lettered_len (Some c) other h = omega arith

some_len : (b : ℕ) (rest : List ℕ) (p : Piece) → piece_of b rest ≡ Some p → 1 ≤ p.len
some_len b rest p h =
    subst HasLen h (if_len (b == byte "\\") (escape_of rest) (piece b false 1) (lettered_len (first letter rest) (coded rest) (coded_len rest)) (omega arith))

followed_alike : (o : Option Piece) (f g : ℕ → Option (List ℕ)) → ((p : Piece) → o ≡ Some p → f p.len ≡ g p.len) → followed o f ≡ followed o g
followed_alike None f g h = refl
followed_alike (Some p) f g h = ap (onto (bytes_of p)) (h p refl)

pieces_alike : (n m : ℕ) (text : List ℕ) → length text ≤ n → length text ≤ m → first_pieces n text ≡ first_pieces m text
unfolding first_pieces
pieces_alike zero zero text h k = refl
pieces_alike zero (suc m) [] h k = refl
pieces_alike zero (suc m) (b ∷ rest) h k = absurd (omega arith)
pieces_alike (suc n) zero [] h k = refl
pieces_alike (suc n) zero (b ∷ rest) h k = absurd (omega arith)
pieces_alike (suc n) (suc m) [] h k = refl
pieces_alike (suc n) (suc m) (b ∷ rest) h k =
    followed_alike (piece_of b rest) (λ len. first_pieces n (drop len (b ∷ rest))) (λ len. first_pieces m (drop len (b ∷ rest)))
    (λ p e.
    let one : 1 ≤ p.len = some_len b rest p e in
    let d = length-drop p.len (b ∷ rest) in
    pieces_alike n m (drop p.len (b ∷ rest)) (omega (arith, d, one)) (omega (arith, d, one)))

pub more_changes_nothing : MoreChangesNothing
more_changes_nothing = record {
  file_rows = λ most file h. rows_alike most (length file) file h (omega arith);
  pieces = λ most text h. pieces_alike most (length text) text h (omega arith);
}
