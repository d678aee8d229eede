-- Patterns and what they match, from hwdb(7) and POSIX.1-2017 fnmatch without flags (XCU 2.13). It is over bytes in the C
-- locale, without collating symbols and equivalence classes. A backslash, `/` and a leading `.` are ordinary bytes. That
-- `^` inverts as `!` does, and that a reversed range has no members, is our choice, since POSIX leaves it open.
use Rattle.std.specs.Prelude.{ℕ, Bool, false, nat_le, if◌then◌else◌, List, codes, [], ◌∷◌, Option, find, nat_eq, ◌==◌, length, None, Some, ◌++◌, ◌+◌, suc, true, zero, ◌-◌, nat_lt, not, IsTrue, ⊤, ◌≡◌}
use Rattle.std.specs.List.{list_any, starts_with}
use Rattle.std.specs.Option.{option_map_or}
use Rattle.hwdb_spec.specs.Lines.{byte}
use Rattle.hwdb_spec.specs.declared.Class.TheVariants.{Alnum, Alpha, Blank, Cntrl, Digit, Graph, Lower, Print, Punct, Space, Upper, Xdigit}
use Rattle.hwdb_spec.specs.declared.Class.{Class}

-- whether a byte is in a span: from its first byte to its last, both counted; in none if the first is the greater
abbrev pub in_span : ℕ → ℕ × ℕ → Bool
in_span b span = if nat_le span.0 b then nat_le b span.1 else false

-- how a named class is written in a bracket (XCU 2.13)
abbrev pub class_text : Class → List ℕ
class_text Alnum = codes "[:alnum:]"
class_text Alpha = codes "[:alpha:]"
class_text Blank = codes "[:blank:]"
class_text Cntrl = codes "[:cntrl:]"
class_text Digit = codes "[:digit:]"
class_text Graph = codes "[:graph:]"
class_text Lower = codes "[:lower:]"
class_text Print = codes "[:print:]"
class_text Punct = codes "[:punct:]"
class_text Space = codes "[:space:]"
class_text Upper = codes "[:upper:]"
class_text Xdigit = codes "[:xdigit:]"

-- the bytes of a named class (XCU 2.13)
abbrev pub class_spans : Class → List (ℕ × ℕ)
class_spans Alnum = (48, 57) ∷ (65, 90) ∷ (97, 122) ∷ []
class_spans Alpha = (65, 90) ∷ (97, 122) ∷ []
class_spans Blank = (9, 9) ∷ (32, 32) ∷ []
class_spans Cntrl = (0, 31) ∷ (127, 127) ∷ []
class_spans Digit = (48, 57) ∷ []
class_spans Graph = (33, 126) ∷ []
class_spans Lower = (97, 122) ∷ []
class_spans Print = (32, 126) ∷ []
class_spans Punct = (33, 47) ∷ (58, 64) ∷ (91, 96) ∷ (123, 126) ∷ []
class_spans Space = (9, 13) ∷ (32, 32) ∷ []
class_spans Upper = (65, 90) ∷ []
class_spans Xdigit = (48, 57) ∷ (65, 70) ∷ (97, 102) ∷ []

-- the twelve named classes
unfoldable pub classes : List Class
classes =
    Alnum ∷ Alpha ∷ Blank ∷ Cntrl ∷ Digit ∷ Graph ∷ Lower ∷ Print ∷ Punct ∷ Space ∷ Upper ∷ Xdigit ∷ []

-- one or more items of a bracket: how many bytes of text they take, and which bytes they admit
pub record Items : Type 0 where
  pub size : ℕ
  pub spans : List (ℕ × ℕ)

-- A range, if there is one: a byte, `-`, and a byte that isn't `]`. Else one byte.
abbrev pub plain_item : List ℕ → Items
plain_item [] = record { size = 1; spans = [] }
plain_item (low ∷ []) = record { size = 1; spans = (low, low) ∷ [] }
plain_item (low ∷ dash ∷ []) = record { size = 1; spans = (low, low) ∷ [] }
plain_item (low ∷ dash ∷ high ∷ rest) =
    if dash == byte "-" then (if high == byte "]" then record { size = 1; spans = (low, low) ∷ [] } else record { size = 3; spans = (low, high) ∷ [] })
    else record { size = 1; spans = (low, low) ∷ [] }

-- the item at the beginning of a text: a named class, else a range, else one byte
unfoldable pub item_at : List ℕ → Items
item_at text = option_map_or (λ c. record { size = length (class_text c); spans = class_spans c }) (find (λ c. starts_with nat_eq text (class_text c)) classes) (plain_item text)

-- an item, and those after it
abbrev pub joined : Items → Option Items → Option Items
joined first None = None
joined first (Some more) = Some (record { size = first.size + more.size; spans = first.spans ++ more.spans })

-- The items from here to the `]` that closes, with it, if one does. The first `skip` bytes belong to
-- the item that was read before. At the first item's place a `]` doesn't close.
unfoldable pub items_from : (is_first : Bool) → (skip : ℕ) → List ℕ → Option Items
items_from is_first skip [] = None
items_from is_first (suc skip) (b ∷ rest) = items_from is_first skip rest
items_from true zero (b ∷ rest) =
    joined (item_at (b ∷ rest)) (items_from false ((item_at (b ∷ rest)).size - 1) rest)
items_from false zero (b ∷ rest) =
    if b == byte "]" then Some (record { size = 1; spans = [] })
    else joined (item_at (b ∷ rest)) (items_from false ((item_at (b ∷ rest)).size - 1) rest)

-- a closed bracket: how many bytes it takes, both ends counted, whether it is inverted, and its items' bytes
pub record Bracket : Type 0 where
  pub size : ℕ
  pub inverted : Bool
  pub spans : List (ℕ × ℕ)

-- the bracket of its items, which begin after `start` bytes
abbrev pub bracket_of : ℕ → Bool → Option Items → Option Bracket
bracket_of start inverted None = None
bracket_of start inverted (Some found) =
    Some (record { size = start + found.size; inverted = inverted; spans = found.spans })

-- `!` or `^`, which inverts after the `[`
abbrev pub is_inversion : ℕ → Bool
is_inversion b = if b == byte "!" then true else b == byte "^"

-- The closed bracket at the beginning of a text, if one begins there: `[`, an optional `!` or `^`, one or more items, `]`.
unfoldable pub bracket_at : List ℕ → Option Bracket
bracket_at [] = None
bracket_at (first ∷ []) = None
bracket_at (first ∷ mark ∷ rest) =
    if first == byte "[" then
    (if is_inversion mark then bracket_of 2 true (items_from true 0 rest)
    else bracket_of 1 false (items_from true 0 (mark ∷ rest)))
    else None

-- a star, a question mark, a closed bracket, or a byte that stands for itself
pub data Token : Type 0 where
  star : Token
  one : Token
  bracket : Bracket → Token
  literal : ℕ → Token

-- The token at the beginning of a text. A `[` that begins no closed bracket stands for itself.
unfoldable pub token_at : List ℕ → Token
token_at [] = literal 0
token_at (first ∷ rest) =
    if first == byte "*" then star
    else (if first == byte "?" then one
    else (if first == byte "[" then option_map_or bracket (bracket_at (first ∷ rest)) (literal (byte "["))
    else literal first))

-- how many bytes of text it takes
abbrev pub token_size : Token → ℕ
token_size (bracket found) = found.size
token_size token = 1

-- the tokens of a text, cut from the left; its first `skip` bytes belong to the token that was cut before
unfoldable pub tokens_from : (skip : ℕ) → List ℕ → List Token
tokens_from skip [] = []
tokens_from (suc skip) (first ∷ rest) = tokens_from skip rest
tokens_from zero (first ∷ rest) =
    token_at (first ∷ rest) ∷ tokens_from (token_size (token_at (first ∷ rest)) - 1) rest

-- The tokens of a pattern, cut from the left. A `[` from which no bracket is closed is a byte (hwdb(7), XCU 2.13).
abbrev pub tokens : List ℕ → List Token
tokens pattern = tokens_from 0 pattern

-- whether a token that isn't a star admits the one byte
abbrev pub admits_byte : Token → ℕ → Bool
admits_byte star b = false
admits_byte one b = true
admits_byte (bracket found) b = if found.inverted then not (list_any (in_span b) found.spans) else list_any (in_span b) found.spans
admits_byte (literal own) b = b == own

-- a star admits any piece, also the empty one; any other token a piece of one byte that it admits
abbrev pub Admits : Token → List ℕ → Type 0
Admits star piece = ⊤
Admits token piece = (b : ℕ) × (piece ≡ b ∷ []) × IsTrue (admits_byte token b)

-- The device is a concatenation of as many pieces as there are tokens, in order, each admitted.
abbrev pub Matches : List Token → List ℕ → Type 0
Matches [] device = device ≡ []
Matches (token ∷ more) device =
    (piece : List ℕ) × (rest : List ℕ) × (device ≡ piece ++ rest) × Admits token piece × Matches more rest

-- whether some ending of the list, the whole and the empty one among them, passes
unfoldable pub some_ending : (List ℕ → Bool) → List ℕ → Bool
some_ending test [] = test []
some_ending test (b ∷ rest) = if test (b ∷ rest) then true else some_ending test rest

-- whether one byte is there that the token admits, and what is after it passes
unfoldable pub byte_then : Token → (List ℕ → Bool) → List ℕ → Bool
byte_then token test [] = false
byte_then token test (b ∷ rest) = if admits_byte token b then test rest else false

-- whether a piece that the token admits is there, and what is after it passes
unfoldable pub piece_then : Token → (List ℕ → Bool) → List ℕ → Bool
piece_then star test device = some_ending test device
piece_then one test device = byte_then one test device
piece_then (bracket found) test device = byte_then (bracket found) test device
piece_then (literal own) test device = byte_then (literal own) test device

-- `Matches` as a test that computes; `MatchesIsTested` says that the two agree
unfoldable pub matches : List Token → List ℕ → Bool
matches [] [] = true
matches [] (b ∷ rest) = false
matches (token ∷ more) device = piece_then token (matches more) device

-- whether some spans have one without members: its first byte is above its last
abbrev pub has_reversed : List (ℕ × ℕ) → Bool
has_reversed spans = list_any (λ span. nat_lt span.1 span.0) spans

-- 0 if an item is a reversed range, else one more than a number
abbrev pub one_more_unless : Items → ℕ → ℕ
one_more_unless found more = if has_reversed found.spans then 0 else 1 + more

-- After how many bytes of a bracket's items the first reversed range is, or else the `]` that closes, read as
-- `items_from` does.
unfoldable pub reversed_from : (is_first : Bool) → (skip : ℕ) → List ℕ → ℕ
reversed_from is_first skip [] = 0
reversed_from is_first (suc skip) (b ∷ rest) = 1 + reversed_from is_first skip rest
reversed_from true zero (b ∷ rest) =
    one_more_unless (item_at (b ∷ rest)) (reversed_from false ((item_at (b ∷ rest)).size - 1) rest)
reversed_from false zero (b ∷ rest) =
    if b == byte "]" then 0
    else one_more_unless (item_at (b ∷ rest)) (reversed_from false ((item_at (b ∷ rest)).size - 1) rest)

-- the same in a text that a bracket begins
abbrev pub reversed_in_bracket : List ℕ → ℕ
reversed_in_bracket [] = 0
reversed_in_bracket (first ∷ []) = 0
reversed_in_bracket (first ∷ mark ∷ rest) =
    if is_inversion mark then 2 + reversed_from true 0 rest else 1 + reversed_from true 0 (mark ∷ rest)

-- whether a token is a bracket with a reversed range
abbrev pub is_reversed : Token → Bool
is_reversed star = false
is_reversed one = false
is_reversed (bracket found) = has_reversed found.spans
is_reversed (literal own) = false

-- After how many bytes of a text its first reversed range is; its length if there is none. The first `skip` bytes
-- belong to the token that was cut before.
unfoldable pub range_from : (skip : ℕ) → List ℕ → ℕ
range_from skip [] = 0
range_from (suc skip) (b ∷ rest) = 1 + range_from skip rest
range_from zero (b ∷ rest) =
    if is_reversed (token_at (b ∷ rest)) then reversed_in_bracket (b ∷ rest)
    else 1 + range_from (token_size (token_at (b ∷ rest)) - 1) rest

-- after how many bytes of a pattern its first reversed range is
abbrev pub range_place : List ℕ → ℕ
range_place pattern = range_from 0 pattern
