-- What is shown of a name without newlines has none. And what is so of each number below a bound.
use Rattle.std.proofs.Common.{◌≡◌, ◌∙◌, ◌<◌, ◌≤◌, ◌⊎◌, ◌/◌, ◌%◌, ◌==◌, ◌&&◌, ◌++◌, ◌∷◌, [], ap, arith, refl, sym, not, false, true, get_or, inl, inr, zero, suc, ℕ, Bool, List}
use Rattle.std.specs.Prelude.{if◌then◌else◌}
use Rattle.std.proofs.lemmas.Bool.{and_parts, cases_eq, cases_lt}
use Rattle.std.proofs.lemmas.List.{get_or_past}
use Rattle.std.specs.Str.{continuation_len}
use Rattle.hex.specs.Hex.{encode_with, lower_digits}
use Rattle.hwdb_spec.specs.Lemmas.Truth.{or_neither}
use Rattle.hwdb_spec.specs.Lines.{has}
use Rattle.hwdb_spec.specs.Visible.{are_kept, first_bytes, shown_as, visible_after}

-- a test passes for each number below a bound
abbrev pub upto : (ℕ → Bool) → ℕ → Bool
upto p zero = true
upto p (suc n) = p n && upto p n

pub upto_sound : (p : ℕ → Bool) (n : ℕ) → upto p n ≡ true → (i : ℕ) → i < n → p i ≡ true
upto_sound p zero h i lt = absurd (omega (arith, lt))
upto_sound p (suc n) h i lt = go (upto_sound p n (and_parts (p n) (upto p n) h).1 i) (cases_eq i n)
  where
    go : (i < n → p i ≡ true) → (i ≡ n) ⊎ (i ≡ n → ⊥) → p i ≡ true
    go below (inl e) = ap p e ∙ (and_parts (p n) (upto p n) h).0
    go below (inr ne) = below (omega (arith, lt, ne))

-- the second test passes if the first does
abbrev pub implies : Bool → Bool → Bool
implies true b = b
implies false b = true

pub implied : (a b : Bool) → implies a b ≡ true → a ≡ true → b ≡ true
implied true b h e = h
implied false b h e = let no : false ≡ true = e in cc

pub refuted : (b : Bool) → not b ≡ true → b ≡ false
refuted true h = sym h
refuted false h = refl

has_behind : (xs ys : List ℕ) → has 10 xs ≡ false → has 10 ys ≡ false → has 10 (xs ++ ys) ≡ false
has_behind [] ys h k = k
has_behind (x ∷ xs) ys h k = let n = or_neither (x == 10) (has 10 xs) h in rw n.0 (has_behind xs ys n.1 k)

digit_unbroken : (n : ℕ) → (get_or lower_digits n 0 == 10) ≡ false
digit_unbroken n = go (cases_lt n 16)
  where
    go : (n < 16) ⊎ (16 ≤ n) → (get_or lower_digits n 0 == 10) ≡ false
    go (inl lt) = refuted _ (upto_sound (λ (k : ℕ). not (get_or lower_digits k 0 == 10)) 16 refl n lt)
    go (inr le) = ap (λ (d : ℕ). d == 10) (get_or_past lower_digits n 0 le)

byte_unbroken : (kept : Bool) (b : ℕ) → (b == 10) ≡ false → has 10 (shown_as kept b) ≡ false
unfolding encode_with
byte_unbroken true b h = rw h
byte_unbroken false b h = rw (digit_unbroken (b / 16), digit_unbroken (b % 16))

pub name_unbroken : (left : ℕ) (name : List ℕ) → has 10 name ≡ false → has 10 (visible_after true left name) ≡ false
unfolding visible_after
name_unbroken left [] h = refl
name_unbroken (suc left) (b ∷ bs) h = let n = or_neither (b == 10) (has 10 bs) h in rw n.0 (name_unbroken left bs n.1)
name_unbroken zero (b ∷ bs) h =
    let n = or_neither (b == 10) (has 10 bs) h in
    let kept = are_kept true (first_bytes b bs) in
    has_behind (shown_as kept b) _ (byte_unbroken kept b n.0) (name_unbroken (if kept then continuation_len b else 0) bs n.1)
