-- A file, cut into lines, and its clean lines, after hwdb(7). Which bytes end a line and which are blanks, and what is
-- done with byte 0, is our choice.
use Rattle.std.specs.Prelude.{List, [], ◌∷◌, Bool, if◌then◌else◌, ℕ, ◌==◌, ◌+◌, false, true, nat_le, drop, not, length, nat_lt, codes, slice_index}
use Rattle.std.specs.List.{list_any, prefix_len, before_first, after_first, onto_first}
use Prim.Native.String.{String}

-- a byte, as a text of one character
abbrev pub byte : String → ℕ
byte text = slice_index (codes text) 0

-- a list, cut at the members that pass the test; a last piece that is empty doesn't count
unfoldable pub pieces : {A : Type 0} → (A → Bool) → List A → List (List A)
pieces cuts [] = []
pieces cuts (x ∷ rest) = if cuts x then [] ∷ pieces cuts rest else onto_first x (pieces cuts rest)

-- whether a byte is the one given
abbrev pub is : ℕ → ℕ → Bool
is own b = b == own

-- a line: its number and its text
pub record Line : Type 0 where
  pub number : ℕ
  pub text : List ℕ

-- texts as lines, numbered from `number` on
unfoldable pub numbered : ℕ → List (List ℕ) → List Line
numbered number [] = []
numbered number (text ∷ more) = record { number = number; text = text } ∷ numbered (number + 1) more

-- the lines of a file: cut at byte 10 and numbered from 1; a last piece that is empty is none. `LinesAreTheFile` says that
-- the lines, each with a newline after it, are the file.
abbrev pub lines : List ℕ → List Line
lines file = numbered 1 (pieces (is (byte "\n")) file)

-- whether a text begins with a byte
abbrev pub begins_with : ℕ → List ℕ → Bool
begins_with own [] = false
begins_with own (first ∷ rest) = first == own

-- whether a byte is in a text
abbrev pub has : ℕ → List ℕ → Bool
has own text = list_any (is own) text

-- a line that begins with `#`
abbrev pub is_comment : Line → Bool
is_comment l = begins_with (byte "#") l.text

-- no comment, but a line with a byte 0
abbrev pub is_spoilt : Line → Bool
is_spoilt l = if is_comment l then false else has 0 l.text

-- a comment, or a line with a byte 0
abbrev pub is_dropped : Line → Bool
is_dropped l = if is_comment l then true else has 0 l.text

-- bytes 9 to 13 and 32
abbrev pub is_blank : ℕ → Bool
is_blank b = if nat_le 9 b then (if nat_le b 13 then true else b == 32) else false

-- whether a list is empty
abbrev pub is_none : {A : Type 0} → List A → Bool
is_none [] = true
is_none (x ∷ rest) = false

-- the text without its trailing blanks
unfoldable pub trimmed : List ℕ → List ℕ
trimmed [] = []
trimmed (b ∷ rest) = if (if is_none (trimmed rest) then is_blank b else false) then [] else b ∷ trimmed rest

-- a line without what comes from the first `#` on, and without the blanks before that
abbrev pub clean_line : Line → Line
clean_line l = record { number = l.number; text = trimmed (before_first (is (byte "#")) l.text) }

-- the clean lines of those that aren't dropped (hwdb(7))
abbrev pub clean : List Line → List Line
clean [] = []
clean (l ∷ more) = if is_dropped l then clean more else clean_line l ∷ clean more

-- a clean line without text
abbrev pub is_empty : Line → Bool
is_empty l = is_none l.text

-- a clean line that begins with a space
abbrev pub is_property : Line → Bool
is_property l = begins_with (byte " ") l.text

-- a clean line that is neither empty nor a property
abbrev pub is_match : Line → Bool
is_match l = if is_empty l then false else not (is_property l)

-- how many bytes a pattern has at most
abbrev pub max_pattern : ℕ
max_pattern = 4096

-- a match line of more than 4,096 bytes
abbrev pub is_long : Line → Bool
is_long l = nat_lt max_pattern (length l.text)

-- a space or a tab
abbrev pub is_indent : ℕ → Bool
is_indent b = if b == byte " " then true else b == byte "\t"

-- a property line without its leading spaces and tabs
abbrev pub property : Line → List ℕ
property l = drop (prefix_len is_indent l.text) l.text

-- whether a `=` is in a property
abbrev pub has_equals : Line → Bool
has_equals l = has (byte "=") (property l)

-- what is before the first `=`
abbrev pub key : Line → List ℕ
key l = before_first (is (byte "=")) (property l)

-- what is after the first `=`, further ones included
abbrev pub value : Line → List ℕ
value l = after_first (is (byte "=")) (property l)

-- whether a byte is before the first `=`
abbrev pub has_key : Line → Bool
has_key l = not (is_none (key l))
