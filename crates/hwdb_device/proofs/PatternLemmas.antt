-- A pattern that is made for a text matches it.
use Rattle.std.proofs.Common.{◌≡◌, ℕ, Bool, true, false, List, [], ◌∷◌, ◌++◌, refl, ◌==◌, eq-eqb}
use Rattle.hwdb_spec_commands.specs.DeviceRecords.{pattern_byte, pattern_for}
use Rattle.hwdb_spec.specs.Patterns.{byte_then, literal, matches, piece_then, token_at, tokens, tokens_from}

-- a byte that begins no wildcard and no bracket means itself
pub itself : (b : ℕ) (rest : List ℕ) → (b == 42) ≡ false → (b == 63) ≡ false → (b == 91) ≡ false → token_at (b ∷ rest) ≡ literal b
unfolding token_at
itself b rest s q o = rw s (rw q (rw o refl))

by_literal : (b : ℕ) (rest text : List ℕ) → (b == 42) ≡ false → (b == 63) ≡ false → (b == 91) ≡ false → matches (tokens rest) text ≡ true
    → matches (tokens (b ∷ rest)) (b ∷ text) ≡ true
unfolding tokens_from matches piece_then byte_then
by_literal b rest text s q o m = rw (itself b rest s q o) (rw (eq-eqb b b refl) m)

by_any : (b : ℕ) (rest text : List ℕ) → matches (tokens rest) text ≡ true → matches (tokens (63 ∷ rest)) (b ∷ text) ≡ true
unfolding tokens_from matches token_at piece_then byte_then
by_any b rest text m = m

by_byte : (b : ℕ) (rest text : List ℕ) (s q o k h : Bool) → (b == 42) ≡ s → (b == 63) ≡ q → (b == 91) ≡ o → (b == 92) ≡ k → (b == 35) ≡ h
    → matches (tokens rest) text ≡ true → matches (tokens (pattern_byte b ∷ rest)) (b ∷ text) ≡ true
by_byte b rest text true q o k h es eq eo ek eh m = rw es (by_any b rest text m)
by_byte b rest text false true o k h es eq eo ek eh m = rw es (rw eq (by_any b rest text m))
by_byte b rest text false false true k h es eq eo ek eh m = rw es (rw eq (rw eo (by_any b rest text m)))
by_byte b rest text false false false true h es eq eo ek eh m = rw es (rw eq (rw eo (rw ek (by_any b rest text m))))
by_byte b rest text false false false false true es eq eo ek eh m = rw es (rw eq (rw eo (rw ek (rw eh (by_any b rest text m)))))
by_byte b rest text false false false false false es eq eo ek eh m = rw es (rw eq (rw eo (rw ek (rw eh (by_literal b rest text es eq eo m)))))

-- a text, and what comes after it
pub fronted : (front rest text : List ℕ) → matches (tokens rest) text ≡ true → matches (tokens (pattern_for front ++ rest)) (front ++ text) ≡ true
fronted [] rest text m = m
fronted (b ∷ front) rest text m =
    by_byte b (pattern_for front ++ rest) (front ++ text) (b == 42) (b == 63) (b == 91) (b == 92) (b == 35) refl refl refl refl refl (fronted front rest text m)

pub matched : (text : List ℕ) → matches (tokens (pattern_for text)) text ≡ true
unfolding tokens_from matches
matched [] = refl
matched (b ∷ text) = by_byte b (pattern_for text) text (b == 42) (b == 63) (b == 91) (b == 92) (b == 35) refl refl refl refl refl (matched text)
