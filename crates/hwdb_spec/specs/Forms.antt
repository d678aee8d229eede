-- Forms of texts, and whether a pattern can match a text of some form. Our choice; which texts udev asks is in `FormTable`.
use Rattle.std.specs.Prelude.{ℕ, Bool, true, false, List, [], ◌∷◌, ◌++◌, ◌⊎◌, ◌+◌, ◌==◌, suc, zero, if◌then◌else◌, drop, filter, length, nat_lt, not, take, IsTrue, ⊤, ◌≡◌}
use Rattle.std.specs.List.{list_any, position_or_len}
use Rattle.hwdb_spec.specs.Lines.{begins_with, byte}
use Rattle.hwdb_spec.specs.Patterns.{Matches, Token, admits_byte, bracket, in_span, literal, one, star, token_size, tokens}
use Rattle.hwdb_spec.specs.declared.ByteSet.TheVariants.{Any, AnyHex, Dmi, DmiLeft, HexOrBlank, InputBits, Left, LeftButColon, LowerHex, Name, Names, Only, Units, UpperHex}
use Rattle.hwdb_spec.specs.declared.ByteSet.{ByteSet}
use Rattle.hwdb_spec.specs.declared.Judgement.TheVariants.{Dead, Fine, UnknownPrefix}
use Rattle.hwdb_spec.specs.declared.Judgement.{Judgement}

-- the bytes of a set, as spans from a first byte to a last one
abbrev pub set_spans : ByteSet → List (ℕ × ℕ)
set_spans (Only own) = (own, own) ∷ []
set_spans UpperHex = (48, 57) ∷ (65, 70) ∷ []
set_spans LowerHex = (48, 57) ∷ (97, 102) ∷ []
set_spans AnyHex = (48, 57) ∷ (65, 70) ∷ (97, 102) ∷ []
set_spans HexOrBlank = (32, 32) ∷ (48, 57) ∷ (97, 102) ∷ []
set_spans InputBits = (44, 44) ∷ (48, 57) ∷ (65, 70) ∷ (97, 97) ∷ (101, 102) ∷ (107, 109) ∷ (114, 115) ∷ (119, 119) ∷ []
set_spans Units = (32, 32) ∷ (48, 58) ∷ (97, 102) ∷ (120, 120) ∷ []
set_spans Name = (45, 45) ∷ (48, 57) ∷ (65, 90) ∷ (95, 95) ∷ (97, 122) ∷ []
set_spans Names = (45, 45) ∷ (48, 58) ∷ (65, 90) ∷ (95, 95) ∷ (97, 122) ∷ []
set_spans Dmi = (33, 57) ∷ (59, 126) ∷ []
set_spans DmiLeft = (35, 37) ∷ (43, 57) ∷ (61, 61) ∷ (63, 90) ∷ (92, 92) ∷ (95, 95) ∷ (97, 122) ∷ []
set_spans Left = (32, 32) ∷ (35, 37) ∷ (43, 58) ∷ (61, 61) ∷ (63, 90) ∷ (92, 92) ∷ (95, 95) ∷ (97, 122) ∷ (128, 255) ∷ []
set_spans LeftButColon = (32, 32) ∷ (35, 37) ∷ (43, 57) ∷ (61, 61) ∷ (63, 90) ∷ (92, 92) ∷ (95, 95) ∷ (97, 122) ∷ (128, 255) ∷ []
set_spans Any = (1, 255) ∷ []

-- whether a set has a byte
abbrev pub is_in : ByteSet → ℕ → Bool
is_in set b = list_any (in_span b) (set_spans set)

-- A piece of a form: these bytes; as many bytes of a set as are counted; any number of bytes of a set, also none.
pub data Piece : Type 0 where
  fixed : List ℕ → Piece
  counted : ByteSet → ℕ → Piece
  repeated : ByteSet → Piece

-- A form: its texts begin with these bytes, which end after a colon. Then come fields in order. A field is one of several
-- ways, and a way is pieces in order.
pub record Form : Type 0 where
  pub prefix : List ℕ
  pub fields : List (List (List Piece))

-- all bytes of a text are in a set
abbrev pub AllIn : ByteSet → List ℕ → Type 0
AllIn set [] = ⊤
AllIn set (b ∷ rest) = IsTrue (is_in set b) × AllIn set rest

-- a text is what a piece stands for
abbrev pub HasPiece : Piece → List ℕ → Type 0
HasPiece (fixed bytes) text = text ≡ bytes
HasPiece (counted set n) text = (length text ≡ n) × AllIn set text
HasPiece (repeated set) text = AllIn set text

-- a text is a concatenation of what some pieces stand for, in order
abbrev pub HasPieces : List Piece → List ℕ → Type 0
HasPieces [] text = text ≡ []
HasPieces (piece ∷ more) text =
    (part : List ℕ) × (rest : List ℕ) × (text ≡ part ++ rest) × HasPiece piece part × HasPieces more rest

-- a text is as one of several ways has it
abbrev pub HasField : List (List Piece) → List ℕ → Type 0
HasField [] text = ⊥
HasField (way ∷ more) text = HasPieces way text ⊎ HasField more text

-- a text is a concatenation of what some fields have, in order
abbrev pub HasFields : List (List (List Piece)) → List ℕ → Type 0
HasFields [] text = text ≡ []
HasFields (field ∷ more) text =
    (part : List ℕ) × (rest : List ℕ) × (text ≡ part ++ rest) × HasField field part × HasFields more rest

-- a text has a form: the bytes that it begins with, and then its fields
abbrev pub HasForm : Form → List ℕ → Type 0
HasForm form text = (rest : List ℕ) × (text ≡ form.prefix ++ rest) × HasFields form.fields rest

-- a text has one of some forms
abbrev pub HasOneOf : List Form → List ℕ → Type 0
HasOneOf [] text = ⊥
HasOneOf (form ∷ more) text = HasForm form text ⊎ HasOneOf more text

-- some text that has one of the forms is matched by some tokens
abbrev pub CanMatch : List Form → List Token → Type 0
CanMatch forms ts = (text : List ℕ) × HasOneOf forms text × Matches ts text

-- some text that has one of the forms begins with what some tokens match
abbrev pub CanBegin : List Form → List Token → Type 0
CanBegin forms ts = (begun : List ℕ) × (rest : List ℕ) × HasOneOf forms (begun ++ rest) × Matches ts begun

-- `CanMatch` as a test that computes, from the back of a form. A row has a cell for each place of a list of tokens, its end too. It
-- tells whether the tokens from there on match some text of the form's rest. `forms_are_tested` says that the test and `CanMatch` agree.

-- whether a token is a star
abbrev pub is_star : Token → Bool
is_star star = true
is_star one = false
is_star (literal own) = false
is_star (bracket found) = false

-- all bytes
unfoldable pub all_bytes_from : ℕ → ℕ → List ℕ
all_bytes_from zero first = []
all_bytes_from (suc more) first = first ∷ all_bytes_from more (suc first)

-- the bytes among which those of a set are looked for
abbrev pub candidates : ByteSet → List ℕ
candidates (Only own) = own ∷ []
candidates set = all_bytes_from 256 0

-- whether a token takes a byte of a set; each set has a byte, so a star does and a question mark
abbrev pub meets : Token → ByteSet → Bool
meets star set = true
meets one set = true
meets (literal own) set = is_in set own
meets (bracket found) set =
    list_any (λ b. if is_in set b then admits_byte (bracket found) b else false) (candidates set)

-- the first cell of a row
abbrev pub head : List Bool → Bool
head [] = false
head (b ∷ rest) = b

-- the cells after the first one
abbrev pub tail : List Bool → List Bool
tail [] = []
tail (b ∷ rest) = rest

-- The cell of one byte. `here` and `after` are this cell and the next one in the row of the form's rest. `next` is the next one
-- in this row.
abbrev pub byte_cell : (star met here after next : Bool) → Bool
byte_cell true met here after next = if next then true else (if met then here else false)
byte_cell false met here after next = if met then after else false

-- the row of one byte of a set, before a rest that has this row
unfoldable pub byte_row : ByteSet → List Token → List Bool → List Bool
byte_row set [] row = false ∷ []
byte_row set (token ∷ more) row = byte_cell (is_star token) (meets token set) (head row) (head (tail row)) (head (byte_row set more (tail row))) ∷ byte_row set more (tail row)

-- the cell of any number of bytes
abbrev pub many_cell : (star met here next : Bool) → Bool
many_cell true met here next = if here then true else next
many_cell false met here next = if here then true else (if met then next else false)

-- the row of any number of bytes of a set
unfoldable pub many_row : ByteSet → List Token → List Bool → List Bool
many_row set [] row = head row ∷ []
many_row set (token ∷ more) row = many_cell (is_star token) (meets token set) (head row) (head (many_row set more (tail row))) ∷ many_row set more (tail row)

-- the row of some bytes
unfoldable pub fixed_row : List ℕ → List Token → List Bool → List Bool
fixed_row [] ts row = row
fixed_row (own ∷ more) ts row = byte_row (Only own) ts (fixed_row more ts row)

-- the row of a number of bytes of a set
unfoldable pub counted_row : ByteSet → ℕ → List Token → List Bool → List Bool
counted_row set zero ts row = row
counted_row set (suc n) ts row = byte_row set ts (counted_row set n ts row)

-- the row of a piece
abbrev pub piece_row : Piece → List Token → List Bool → List Bool
piece_row (fixed bytes) ts row = fixed_row bytes ts row
piece_row (counted set n) ts row = counted_row set n ts row
piece_row (repeated set) ts row = many_row set ts row

-- the row of some pieces in order
unfoldable pub pieces_row : List Piece → List Token → List Bool → List Bool
pieces_row [] ts row = row
pieces_row (piece ∷ more) ts row = piece_row piece ts (pieces_row more ts row)

-- the row of one thing or another
unfoldable pub either_row : List Token → List Bool → List Bool → List Bool
either_row [] left other = (if head left then true else head other) ∷ []
either_row (token ∷ more) left other = (if head left then true else head other) ∷ either_row more (tail left) (tail other)

-- the row of nothing at all
unfoldable pub none_row : List Token → List Bool
none_row [] = false ∷ []
none_row (token ∷ more) = false ∷ none_row more

-- the row of the text's end
unfoldable pub end_row : List Token → List Bool
end_row [] = true ∷ []
end_row (token ∷ more) = (if is_star token then head (end_row more) else false) ∷ end_row more

-- the row of one of several ways
unfoldable pub field_row : List (List Piece) → List Token → List Bool → List Bool
field_row [] ts row = none_row ts
field_row (way ∷ more) ts row = either_row ts (pieces_row way ts row) (field_row more ts row)

-- the row of some fields in order
unfoldable pub fields_row : List (List (List Piece)) → List Token → List Bool
fields_row [] ts = end_row ts
fields_row (field ∷ more) ts = field_row field ts (fields_row more ts)

-- whether the tokens match a text of the form
abbrev pub meets_form : List Token → Form → Bool
meets_form ts form = head (fixed_row form.prefix ts (fields_row form.fields ts))

-- whether the tokens match a text of one of the forms
abbrev pub can_match : List Form → List Token → Bool
can_match forms ts = list_any (meets_form ts) forms

-- whether a text of one of the forms begins with what the tokens match: with a star after them they match one
abbrev pub can_begin : List Form → List Token → Bool
can_begin forms ts = can_match forms (ts ++ star ∷ [])

-- how many of the tokens, at most, a text of one of the forms begins with; `n` or fewer are tried
unfoldable pub front_from : List Form → List Token → (n : ℕ) → ℕ
front_from forms ts zero = 0
front_from forms ts (suc n) = if can_begin forms (take (suc n) ts) then suc n else front_from forms ts n

-- how many of a pattern's tokens, at most, a text of one of the forms begins with
abbrev pub front_length : List Form → List Token → ℕ
front_length forms ts = front_from forms ts (length ts)

-- how many bytes of text some tokens take
abbrev pub text_size : List Token → ℕ
text_size [] = 0
text_size (token ∷ more) = token_size token + text_size more

-- whether a byte ends a pattern's prefix: a colon, or what may be a wildcard
abbrev pub ends_prefix : ℕ → Bool
ends_prefix b = if b == byte ":" then true else (if b == byte "*" then true else (if b == byte "?" then true else b == byte "["))

-- How many bytes a pattern's prefix takes: up to its first colon, and with it. It takes none if a wildcard comes before it, or
-- there is no colon.
abbrev pub prefix_size : List ℕ → ℕ
prefix_size pattern =
    if begins_with (byte ":") (drop (position_or_len ends_prefix pattern) pattern) then position_or_len ends_prefix pattern + 1 else 0

-- whether a pattern has a prefix, and no text of one of the forms begins with it
abbrev pub is_unknown : List Form → List ℕ → Bool
is_unknown forms pattern =
    if nat_lt 0 (prefix_size pattern) then not (can_begin forms (take (prefix_size pattern) (tokens pattern))) else false

-- What is said of a pattern: it is fine if it matches a text of one of the forms. Else its prefix is unknown, or it is dead. A dead
-- one's place is after as many of its tokens as a text of one of the forms can begin with.
abbrev pub judged : List Form → List ℕ → Judgement
judged forms pattern =
    if can_match forms (tokens pattern) then Fine
    else (if is_unknown forms pattern then UnknownPrefix
    else Dead (text_size (take (front_length forms (tokens pattern)) (tokens pattern))))

-- whether a byte is or may begin a wildcard
abbrev pub is_wild : ℕ → Bool
is_wild b = if b == byte "*" then true else (if b == byte "?" then true else b == byte "[")

-- Whether a byte, which is no wildcard, may be written after the beginning of a pattern. Some text of one of the forms then begins
-- with what both match.
abbrev pub is_expected : List Form → (front : List ℕ) → ℕ → Bool
is_expected forms front b = if is_wild b then false else can_begin forms (tokens (front ++ b ∷ []))

-- all these bytes, in order
abbrev pub expected : List Form → (front : List ℕ) → List ℕ
expected forms front = filter (is_expected forms front) (all_bytes_from 256 0)
