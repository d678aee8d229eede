-- A string with its first eight bytes as a number (our choice: numbers are compared before strings).
use Rattle.std.specs.Prelude.{List, drop, get_or, ℕ, ◌<◌, ◌≡◌, ◌∷◌, Bool, true, false}
use Rattle.byteorder.specs.Endian.{big_number}

-- the bytes of a text, after a space if it is spaced
abbrev pub spaced_text : Bool → List ℕ → List ℕ
spaced_text true text = 32 ∷ text
spaced_text false text = text

-- the number is that of the first eight bytes, the highest first
pub record IsHeaded (head : ℕ) (text : List ℕ) : Type 0 where
  pub is : head ≡ big_number 8 text
  pub bytes : (i : ℕ) → get_or text i 0 < 256

-- the numbers are those of the first eight bytes and of the next eight
pub record AreHeads (head next : ℕ) (text : List ℕ) : Type 0 where
  pub first : IsHeaded head text
  pub second : next ≡ big_number 8 (drop 8 text)
