-- Bytes that people look at: a byte that a terminal would act on is shown as `\x` and its two hexadecimal digits. Which
-- characters are for control is std's `is_control`, which has those of Unicode (Cc): 0 to 31, 127, and 128 to 159. What UTF-8 is
-- is from RFC 3629. How a byte is shown is our choice.
use Rattle.std.specs.Prelude.{Bool, true, false, ℕ, zero, suc, List, [], ◌∷◌, ◌++◌, ◌==◌, ◌&&◌, chars, codes, if◌then◌else◌, not, take}
use Rattle.std.specs.Char.{is_control}
use Rattle.std.specs.List.{list_all}
use Rattle.std.specs.Str.{continuation_len, is_utf8}
use Rattle.hex.specs.Hex.{encode_lower}
use Rattle.hwdb_spec.specs.Lines.{byte}

-- a newline or a tab, which our own texts have
abbrev pub is_layout : ℕ → Bool
is_layout c = if c == byte "\n" then true else c == byte "\t"

-- whether a character is kept as it is: one that isn't for control, and of a text that is no name a newline or a tab
abbrev pub is_kept : (in_name : Bool) → ℕ → Bool
is_kept true c = not (is_control c)
is_kept false c = if is_layout c then true else not (is_control c)

-- whether bytes are a text of UTF-8, of which each character is kept
abbrev pub are_kept : (in_name : Bool) → List ℕ → Bool
are_kept in_name bytes = is_utf8 bytes && list_all (is_kept in_name) (chars bytes)

-- the bytes of the character that a text would begin with, by its first byte
abbrev pub first_bytes : ℕ → List ℕ → List ℕ
first_bytes b bs = b ∷ take (continuation_len b) bs

-- a byte as `\x` and its two hexadecimal digits
abbrev pub hex_byte : ℕ → List ℕ
hex_byte b = codes "\\x" ++ encode_lower (b ∷ [])

-- a byte as it is, or in hexadecimal digits
abbrev pub shown_as : (kept : Bool) → ℕ → List ℕ
shown_as kept b = if kept then b ∷ [] else hex_byte b

-- Each byte of a text as it is if its character is kept, else in hexadecimal digits. So many bytes at the front belong to a
-- character that is kept.
unfoldable pub visible_after : (in_name : Bool) → (left : ℕ) → List ℕ → List ℕ
visible_after in_name left [] = []
visible_after in_name (suc left) (b ∷ bs) = b ∷ visible_after in_name left bs
visible_after in_name zero (b ∷ bs) =
    let kept = are_kept in_name (first_bytes b bs) in
    shown_as kept b ++ visible_after in_name (if kept then continuation_len b else 0) bs

-- what a terminal is shown of a text
abbrev pub visible : List ℕ → List ℕ
visible text = visible_after false 0 text

-- what is shown of a file's name, which has no newline and no tab of ours
abbrev pub shown_name : List ℕ → List ℕ
shown_name name = visible_after true 0 name
