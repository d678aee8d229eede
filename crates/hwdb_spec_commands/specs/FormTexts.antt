-- The shortest text of a form that a pattern matches. Rows are as those of `Forms`, with a text in place of a test, a cell for each place
-- of a list of tokens. A cell has the shortest text of the form's rest that the tokens from there on match, if there is one. Our choice.
use Rattle.std.specs.Prelude.{ℕ, Bool, true, false, List, [], ◌∷◌, ◌++◌, Option, None, Some, suc, zero, find, flat_map, if◌then◌else◌, length, nat_lt}
use Rattle.hwdb_spec.specs.Forms.{Form, Piece, candidates, counted, fixed, is_in, is_star, repeated}
use Rattle.hwdb_spec.specs.Patterns.{Token, admits_byte, one, star}
use Rattle.hwdb_spec.specs.declared.ByteSet.TheVariants.{Only}
use Rattle.hwdb_spec.specs.declared.ByteSet.{ByteSet}
use Rattle.hwdb_spec_commands.specs.SampleTexts.{usual}

-- a text, if there is one
abbrev pub Text : Type 0
Text = Option (List ℕ)

-- the shorter of two texts; the first one, if both are as long
abbrev pub shorter : Text → Text → Text
shorter None other = other
shorter (Some text) None = Some text
shorter (Some text) (Some other) = Some (if nat_lt (length other) (length text) then other else text)

-- whether a token takes a byte of a set; a star takes each
abbrev pub takes : Token → ByteSet → ℕ → Bool
takes token set b = if is_in set b then (if is_star token then true else admits_byte token b) else false

-- a byte of a set that a token takes: a usual one, or else the first
abbrev pub byte_for : Token → ByteSet → Option ℕ
byte_for token set = find (takes token set) (usual ++ candidates set)

-- a text with a byte before it
abbrev pub begun_with : Option ℕ → List ℕ → Text
begun_with None text = None
begun_with (Some b) text = Some (b ∷ text)

-- the same, if there is a text
abbrev pub with_byte : Text → Option ℕ → Text
with_byte None b = None
with_byte (Some text) b = begun_with b text

-- the first cell of a row
abbrev pub first : List Text → Text
first [] = None
first (text ∷ rest) = text

-- the cells after it
abbrev pub others : List Text → List Text
others [] = []
others (text ∷ rest) = rest

-- The cell of one byte. `here` and `after` are this cell and the next one in the row of the form's rest. `next` is the next one in this
-- row.
abbrev pub byte_cell : (star : Bool) (b : Option ℕ) (here after next : Text) → Text
byte_cell true b here after next = shorter next (with_byte here b)
byte_cell false b here after next = with_byte after b

-- the row of one byte of a set, before a rest that has this row
unfoldable pub byte_texts : ByteSet → List Token → List Text → List Text
byte_texts set [] row = None ∷ []
byte_texts set (token ∷ more) row = byte_cell (is_star token) (byte_for token set) (first row) (first (others row)) (first (byte_texts set more (others row))) ∷ byte_texts set more (others row)

-- the cell of any number of bytes
abbrev pub many_cell : (star : Bool) (b : Option ℕ) (here next : Text) → Text
many_cell true b here next = shorter here next
many_cell false b here next = shorter here (with_byte next b)

-- the row of any number of bytes of a set
unfoldable pub many_texts : ByteSet → List Token → List Text → List Text
many_texts set [] row = first row ∷ []
many_texts set (token ∷ more) row = many_cell (is_star token) (byte_for token set) (first row) (first (many_texts set more (others row))) ∷ many_texts set more (others row)

-- the row of some bytes
unfoldable pub fixed_texts : List ℕ → List Token → List Text → List Text
fixed_texts [] ts row = row
fixed_texts (own ∷ more) ts row = byte_texts (Only own) ts (fixed_texts more ts row)

-- the row of a number of bytes of a set
unfoldable pub counted_texts : ByteSet → ℕ → List Token → List Text → List Text
counted_texts set zero ts row = row
counted_texts set (suc n) ts row = byte_texts set ts (counted_texts set n ts row)

-- the row of a piece
abbrev pub piece_texts : Piece → List Token → List Text → List Text
piece_texts (fixed bytes) ts row = fixed_texts bytes ts row
piece_texts (counted set n) ts row = counted_texts set n ts row
piece_texts (repeated set) ts row = many_texts set ts row

-- the row of some pieces in order
unfoldable pub pieces_texts : List Piece → List Token → List Text → List Text
pieces_texts [] ts row = row
pieces_texts (piece ∷ more) ts row = piece_texts piece ts (pieces_texts more ts row)

-- the row of one thing or another
unfoldable pub either_texts : List Token → List Text → List Text → List Text
either_texts [] row other = shorter (first row) (first other) ∷ []
either_texts (token ∷ more) row other = shorter (first row) (first other) ∷ either_texts more (others row) (others other)

-- the row of nothing at all
unfoldable pub no_texts : List Token → List Text
no_texts [] = None ∷ []
no_texts (token ∷ more) = None ∷ no_texts more

-- the row of the text's end
unfoldable pub end_texts : List Token → List Text
end_texts [] = Some [] ∷ []
end_texts (token ∷ more) = (if is_star token then first (end_texts more) else None) ∷ end_texts more

-- the row of one of several ways
unfoldable pub field_texts : List (List Piece) → List Token → List Text → List Text
field_texts [] ts row = no_texts ts
field_texts (way ∷ more) ts row = either_texts ts (pieces_texts way ts row) (field_texts more ts row)

-- the row of some fields in order
unfoldable pub fields_texts : List (List (List Piece)) → List Token → List Text
fields_texts [] ts = end_texts ts
fields_texts (field ∷ more) ts = field_texts field ts (fields_texts more ts)

-- the shortest text of a form that the tokens match
abbrev pub text_in : List Token → Form → Text
text_in ts form = first (fixed_texts form.prefix ts (fields_texts form.fields ts))

-- the shortest text of some forms that the tokens match; that of the first form, if others are as short
unfoldable pub text_among : List Form → List Token → Text
text_among [] ts = None
text_among (form ∷ more) ts = shorter (text_in ts form) (text_among more ts)

-- a token, with a byte before it if it is a star
abbrev pub widened : Token → List Token
widened token = if is_star token then one ∷ star ∷ [] else token ∷ []

-- the tokens of which each star takes a byte or more
abbrev pub filled : List Token → List Token
filled ts = flat_map widened ts
