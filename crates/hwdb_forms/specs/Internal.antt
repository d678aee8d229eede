-- What the proofs of this crate speak of: forms and languages as they are computed, from the left to the right.
use Rattle.std.specs.Prelude.{ℕ, Bool, false, true, List, [], ◌∷◌, ◌++◌, IsTrue, ◌≡◌, ◌≤◌, ◌<◌, ◌⊎◌, ◌==◌, ◌+◌, ◌-◌, ◌^◌, if◌then◌else◌, drop, get_or, length, map, nat_lt, set, suc, take, zero}
use Rattle.std.proofs.Common.{Bor}
use Rattle.std.specs.List.{list_any}
use Rattle.std.specs.Int.{bit_at}
use Rattle.std.specs.Int.Bits.{bit_or}
use Rattle.hwdb_spec_commands.specs.FormTable.{asked}
use Rattle.hwdb_spec_commands.specs.LikelyForms.{likely}
use Rattle.hwdb_spec.specs.Tree.{is_open}
use Rattle.hwdb_spec.specs.Patterns.{Token, admits_byte, literal, Matches, star, token_at, tokens}
use Rattle.hwdb_spec.specs.Forms.{Piece, Form, fixed, counted, repeated, is_in, is_star}
use Rattle.hwdb_spec.specs.Forms
use Rattle.hwdb_spec.specs.declared.ByteSet.{ByteSet}
use Rattle.hwdb_spec.specs.declared.ByteSet.TheVariants.{AnyHex, Only, UpperHex}
use Rattle.hwdb_forms.specs.declared.pieces.Piece.TheVariants.{Fixed, Counted, Repeated}
use Rattle.hwdb_forms.specs.declared.pieces.Piece
use Rattle.hwdb_forms.specs.declared.pieces.FormRow
use Rattle.hwdb_forms.specs.declared.pieces.Table.{Table}
use Rattle.hwdb_forms.specs.declared.pieces.Table.TheVariants.{Asked, Likely}
use Rattle.hwdb_forms.specs.declared.leads.Passed.TheVariants.{No, Unknown, Yes}
use Rattle.hwdb_forms.specs.declared.leads.Passed.{Passed}
use Rattle.hwdb_forms.specs.declared.leads.Lead.{Lead}
use Rattle.hwdb_forms.specs.declared.steps.Step.{Step}
use Rattle.hwdb_forms.specs.declared.steps.Step.TheVariants.{Byte, Either, End, Many, One}
use Rattle.hwdb_forms.specs.declared.bytes.Bytes.{Bytes}
use Rattle.hwdb_forms.specs.declared.expecting.Following.{Following}

-- what a piece of Rust's means, and a form
abbrev pub piece_of : Piece.Piece → Forms.Piece
piece_of (Fixed bytes) = fixed bytes.now
piece_of (Counted set n) = counted set n
piece_of (Repeated set) = repeated set

abbrev pub form_of : FormRow.FormRow → Forms.Form
form_of f = record { prefix = f.prefix.now; fields = map (λ field. map (λ way. map piece_of way.now) field.now) f.fields.now }

-- the forms of a table
abbrev pub forms_of : Table → List Form
forms_of Asked = asked
forms_of Likely = likely

-- the tokens that the texts begin with
abbrev pub views : List (Bor (List ℕ)) → List Token
views texts = map (λ text. token_at text.now) texts

-- whether a token takes a byte; a star takes any
abbrev pub takes : Token → ℕ → Bool
takes token b = if is_star token then true else admits_byte token b

-- whether a byte is in a set, and a token admits it
abbrev pub takes_of_set : Token → ByteSet → ℕ → Bool
takes_of_set token set b = if is_in set b then admits_byte token b else false

-- a byte of the set, then what is told
abbrev pub ByteThen : ByteSet → (List ℕ → Type 0) → List ℕ → Type 0
ByteThen set Behind [] = ⊥
ByteThen set Behind (b ∷ rest) = IsTrue (is_in set b) × Behind rest

-- any number of bytes of the set, also none, then what is told
abbrev pub ManyThen : ByteSet → (List ℕ → Type 0) → List ℕ → Type 0
ManyThen set Behind [] = Behind []
ManyThen set Behind (b ∷ rest) = Behind (b ∷ rest) ⊎ (IsTrue (is_in set b) × ManyThen set Behind rest)

-- these bytes, then what is told
abbrev pub FixedThen : List ℕ → (List ℕ → Type 0) → List ℕ → Type 0
FixedThen [] Behind text = Behind text
FixedThen (own ∷ more) Behind text = ByteThen (Only own) (FixedThen more Behind) text

-- so many bytes of the set, then what is told
abbrev pub CountedThen : ByteSet → ℕ → (List ℕ → Type 0) → List ℕ → Type 0
CountedThen set zero Behind text = Behind text
CountedThen set (suc n) Behind text = ByteThen set (CountedThen set n Behind) text

abbrev pub PieceThen : Forms.Piece → (List ℕ → Type 0) → List ℕ → Type 0
PieceThen (fixed bytes) Behind text = FixedThen bytes Behind text
PieceThen (counted set n) Behind text = CountedThen set n Behind text
PieceThen (repeated set) Behind text = ManyThen set Behind text

-- the pieces in order, then what is told
abbrev pub PiecesThen : List Forms.Piece → (List ℕ → Type 0) → List ℕ → Type 0
PiecesThen [] Behind text = Behind text
PiecesThen (piece ∷ more) Behind text = PieceThen piece (PiecesThen more Behind) text

-- one of several ways, then what is told
abbrev pub FieldThen : List (List Forms.Piece) → (List ℕ → Type 0) → List ℕ → Type 0
FieldThen [] Behind text = ⊥
FieldThen (way ∷ more) Behind text = PiecesThen way Behind text ⊎ FieldThen more Behind text

-- fields in order, to the text's end
abbrev pub Fields : List (List (List Forms.Piece)) → List ℕ → Type 0
Fields [] text = text ≡ []
Fields (field ∷ more) text = FieldThen field (Fields more) text

abbrev pub Fits : Forms.Form → List ℕ → Type 0
Fits form text = FixedThen form.prefix (Fields form.fields) text

-- some text that is as told is matched
abbrev pub IsMet : (List ℕ → Type 0) → List Token → Type 0
IsMet Told ts = (text : List ℕ) × Told text × Matches ts text

-- what the fields of Rust's mean
abbrev pub fields_of : List (Bor (List (Bor (List Piece.Piece)))) → List (List (List Forms.Piece))
fields_of fields = map (λ field. map (λ way. map piece_of way.now) field.now) fields

-- whether tokens begin as some bytes do
abbrev pub passed_fixed : List ℕ → List Token → Passed
passed_fixed [] ts = Yes
passed_fixed (b ∷ bytes) [] = Unknown
passed_fixed (b ∷ bytes) (t ∷ ts) =
    if is_star t then Unknown else (if Forms.meets t (Only b) then passed_fixed bytes ts else No)

-- the same of so many bytes of a set
abbrev pub passed_counted : ByteSet → ℕ → List Token → Passed
passed_counted set zero ts = Yes
passed_counted set (suc n) [] = Unknown
passed_counted set (suc n) (t ∷ ts) =
    if is_star t then Unknown else (if Forms.meets t set then passed_counted set n ts else No)

-- the same of a piece
abbrev pub passed : Forms.Piece → List Token → Passed
passed (fixed bytes) ts = passed_fixed bytes ts
passed (counted set n) ts = passed_counted set n ts
passed (repeated set) ts = Unknown

-- each of some things is as told
abbrev pub Every : (A : Type 0) → (A → Type 0) → List A → Type 0
Every A Told [] = Unit {0}
Every A Told (x ∷ more) = Told x × Every A Told more

-- each field has a way
abbrev pub HaveWays : List (List (List Forms.Piece)) → Type 0
HaveWays [] = Unit {0}
HaveWays ([] ∷ more) = ⊥
HaveWays ((way ∷ ways) ∷ more) = HaveWays more

-- each field of a form has a way
abbrev pub HasWays : Forms.Form → Type 0
HasWays form = HaveWays form.fields

-- What is known of the beginning of a pattern: its tokens, and whether no `[` is open.
pub record IsAfter (front : List ℕ) (f : Following) : Type 0 where
  pub same : views f.tokens.items ≡ tokens front
  pub closed : f.is_closed ≡ true → list_any is_open (tokens front) ≡ false

-- A byte after a front doesn't change its tokens: it is no `]`, or no `[` is open there.
abbrev pub Stays : (front : List ℕ) → ℕ → Type 0
Stays front byte = byte ≡ 93 → list_any is_open (tokens front) ≡ false

-- how many bytes a piece has, if each of its texts has as many
abbrev pub piece_size : Forms.Piece → ℕ
piece_size (fixed bytes) = length bytes
piece_size (counted set n) = n
piece_size (repeated set) = 0

abbrev pub is_no : Passed → Bool
is_no No = true
is_no Unknown = false
is_no Yes = false

-- rows for each list of tokens: without its first cell a row is that of the tokens without their first one
abbrev pub IsFamily : (List Token → List Bool) → Type 0
IsFamily rows = (t : Token) (ts : List Token) → Forms.tail (rows (t ∷ ts)) ≡ rows ts

-- What is found of the way in which tokens begin as some pieces, whatever comes after the pieces.
abbrev pub Leads : List Forms.Piece → List Token → Lead → Type 0
Leads ps ts lead =
    (rows : List Token → List Bool) → IsFamily rows
    → Forms.head (Forms.pieces_row ps ts (rows ts))
    ≡ (if lead.is_dead then false else Forms.head (Forms.pieces_row (drop lead.pieces ps) (drop lead.tokens ts) (rows (drop lead.tokens ts))))

-- Tokens match a piece and what comes after it, if a star alone matches that. They end in a star, and those before it match the
-- piece's first bytes.
abbrev pub StarEnds : Forms.Piece → List Token → Type 0
StarEnds p ts =
    (rows : List Token → List Bool) → IsFamily rows → Forms.head (rows (star ∷ [])) ≡ true → Forms.head (Forms.piece_row p ts (rows ts)) ≡ true

-- whether tokens match pieces in order, and then some text of the fields
abbrev pub way_met : List Forms.Piece → List (List (List Forms.Piece)) → List Token → Bool
way_met ps fields ts = Forms.head (Forms.pieces_row ps ts (Forms.fields_row fields ts))

-- A text is cut after some bytes: its tokens after as many are those of its rest.
abbrev pub IsCut : List ℕ → ℕ → Type 0
IsCut text n = tokens (drop n text) ≡ drop n (tokens text)

-- Tokens go through a piece, a way and a field by their first ones: they match it and what comes after it, if the others match that.
abbrev pub GoesThrough : Forms.Piece → List Token → ℕ → Type 0
GoesThrough p ts n =
    (rows : List Token → List Bool) → IsFamily rows → Forms.head (rows (drop n ts)) ≡ true → Forms.head (Forms.piece_row p ts (rows ts)) ≡ true

abbrev pub GoesThroughWay : List Forms.Piece → List Token → ℕ → Type 0
GoesThroughWay way ts n =
    (rows : List Token → List Bool) → IsFamily rows → Forms.head (rows (drop n ts)) ≡ true → Forms.head (Forms.pieces_row way ts (rows ts)) ≡ true

abbrev pub GoesThroughField : List (List Forms.Piece) → List Token → ℕ → Type 0
GoesThroughField field ts n =
    (rows : List Token → List Bool) → IsFamily rows → Forms.head (rows (drop n ts)) ≡ true → Forms.head (Forms.field_row field ts (rows ts)) ≡ true

-- A text goes through a piece, a way and a field by its first bytes.
pub record IsThrough (p : Forms.Piece) (text : List ℕ) (n : ℕ) : Type 0 where
  pub within : n ≤ length text
  pub cut : IsCut text n
  pub through : GoesThrough p (tokens text) n

pub record IsThroughWay (way : List Forms.Piece) (text : List ℕ) (n : ℕ) : Type 0 where
  pub within : n ≤ length text
  pub cut : IsCut text n
  pub through : GoesThroughWay way (tokens text) n

pub record IsThroughField (field : List (List Forms.Piece)) (text : List ℕ) (n : ℕ) : Type 0 where
  pub within : n ≤ length text
  pub cut : IsCut text n
  pub through : GoesThroughField field (tokens text) n

-- a byte is a star, or is of a set and means itself
abbrev pub IsOfMany : ByteSet → ℕ → Type 0
IsOfMany set b = (b ≡ 42) ⊎ ((is_in set b ≡ true) × (Forms.is_wild b ≡ false))

-- A text that is asked has the form: what matches one of the form's texts matches one that is asked.
abbrev pub IsAsked : Forms.Form → Type 0
IsAsked form = (ts : List Token) → Forms.meets_form ts form ≡ true → Forms.can_match asked ts ≡ true

-- the same of those that are likely asked
abbrev pub IsLikely : Forms.Form → Type 0
IsLikely form = (ts : List Token) → Forms.meets_form ts form ≡ true → Forms.can_match likely ts ≡ true

-- whether a number has a bit
abbrev pub has_bit : ℕ → ℕ → Bool
has_bit n i = bit_at n i == 1

-- whether some bytes have one
abbrev pub has_byte : Bytes → ℕ → Bool
has_byte bytes b = if nat_lt b 128 then has_bit bytes.low b else has_bit bytes.high (b - 128)

-- Bytes are those that may be written after a front, as far as they mean themselves and close no bracket.
abbrev pub AreAfter : List Form → (front : List ℕ) → Bytes → Type 0
AreAfter forms front bytes = (b : ℕ) → b < 256 → Forms.is_wild b ≡ false → Stays front b → has_byte bytes b ≡ Forms.can_begin forms (tokens (front ++ b ∷ []))

-- Pieces are led through by the first tokens to a place among both.
abbrev pub LedTo : List Forms.Piece → List Token → ℕ → ℕ → Type 0
LedTo ps ts done at =
    (rows : List Token → List Bool) → IsFamily rows → Forms.head (Forms.pieces_row (drop done ps) (drop at ts) (rows (drop at ts))) ≡ true
    → Forms.head (Forms.pieces_row ps ts (rows ts)) ≡ true

-- the bytes that a template's byte is for
abbrev pub set_of : ℕ → ByteSet
set_of own = if own == 88 then UpperHex else (if own == 89 then AnyHex else Only own)

-- a template as pieces of one byte each
abbrev pub unit_of : ℕ → Forms.Piece
unit_of own = counted (set_of own) 1

abbrev pub units : List ℕ → List Forms.Piece
units template = map unit_of template

-- pieces as others of one byte each, but for those of any number
abbrev pub copies : ℕ → Forms.Piece → List Forms.Piece
copies zero piece = []
copies (suc n) piece = piece ∷ copies n piece

abbrev pub parts : Forms.Piece → List Forms.Piece
parts (fixed bytes) = map (λ own. counted (Only own) 1) bytes
parts (counted set n) = copies n (counted set 1)
parts (repeated set) = repeated set ∷ []

abbrev pub all_parts : List Forms.Piece → List Forms.Piece
all_parts [] = []
all_parts (piece ∷ more) = parts piece ++ all_parts more

-- templates are the first ways of fields
abbrev pub AreFirstWays : List (List (List Forms.Piece)) → List (List ℕ) → Type 0
AreFirstWays [] [] = Unit {0}
AreFirstWays [] (template ∷ more) = ⊥
AreFirstWays ([] ∷ fields) templates = ⊥
AreFirstWays ((way ∷ ways) ∷ fields) [] = ⊥
AreFirstWays ((way ∷ ways) ∷ fields) (template ∷ more) = (units template ≡ all_parts way) × AreFirstWays fields more

-- ---- bytes of a set
-- which bytes of a set are among so many, from the first one on: a bit for each
unfoldable pub bytes_of : ByteSet → ℕ → ℕ → ℕ
bytes_of set first zero = 0
bytes_of set first (suc n) = if is_in set (first + n) then bit_or (bytes_of set first n) (2 ^ n) else bytes_of set first n

-- ---- forms as steps
-- whether tokens match one byte of a set and what comes after it; any number of them
unfoldable pub one_met : ByteSet → (List Token → Bool) → List Token → Bool
one_met set After [] = false
one_met set After (t ∷ us) = Forms.byte_cell (is_star t) (Forms.meets t set) (After (t ∷ us)) (After us) (one_met set After us)

unfoldable pub many_met : ByteSet → (List Token → Bool) → List Token → Bool
many_met set After [] = After []
many_met set After (t ∷ us) = Forms.many_cell (is_star t) (Forms.meets t set) (After (t ∷ us)) (many_met set After us)

-- nothing matches
abbrev pub never : List Token → Bool
never us = false

-- whether tokens match a text from a place on; each place of some tells that
abbrev pub met_at : List (List Token → Bool) → ℕ → List Token → Bool
met_at ls n = get_or ls n never

-- the same of a step, by the places before it
abbrev pub step_met : Step → List (List Token → Bool) → List Token → Bool
step_met End ls us = Forms.head (Forms.end_row us)
step_met (Byte own n) ls us = one_met (Only own) (met_at ls n) us
step_met (One set n) ls us = one_met set (met_at ls n) us
step_met (Many set n) ls us = many_met set (met_at ls n) us
step_met (Either n m) ls us = if met_at ls n us then true else met_at ls m us

-- the places of some steps, after others
unfoldable pub places_after : List (List Token → Bool) → List Step → List (List Token → Bool)
places_after ls [] = ls
places_after ls (s ∷ more) = places_after (ls ++ step_met s ls ∷ []) more

abbrev pub places : List Step → List (List Token → Bool)
places steps = places_after [] steps

-- a star alone matches a text from each place on
abbrev pub AreLive : List (List Token → Bool) → Type 0
AreLive ls = (n : ℕ) → n < length ls → met_at ls n (star ∷ []) ≡ true

-- a place has these rows
abbrev pub HasRows : List Step → ℕ → (List Token → List Bool) → Type 0
HasRows steps place rows = (us : List Token) → met_at (places steps) place us ≡ Forms.head (rows us)

-- Steps were put after others, and their place has other rows than the one after them.
pub record IsPut (old new : List Step) (next place : ℕ) (row_of : (List Token → List Bool) → List Token → List Bool) : Type 0 where
  pub grown : (more : List Step) × (new ≡ old ++ more)
  pub within : place < length new
  pub live : AreLive (places old) → AreLive (places new)
  pub told : (rows : List Token → List Bool) → IsFamily rows → HasRows old next rows → HasRows new place (row_of rows)

-- Steps are those of a form or of its end: from the entry on tokens match what the rows tell.
pub record IsLaid (steps : List Step) (entry : ℕ) (rows : List Token → List Bool) : Type 0 where
  pub within : entry < length steps
  pub live : AreLive (places steps)
  pub told : HasRows steps entry rows

-- ---- walks
-- marks, and one more if it is before an end
abbrev pub marked : List Bool → (place end : ℕ) → List Bool
marked marks place end = if nat_lt place end then set marks place true else marks

-- whether tokens match a text from a marked place on
abbrev pub any_met : List Bool → List (List Token → Bool) → List Token → Bool
any_met [] ls us = false
any_met (mark ∷ marks) [] us = false
any_met (true ∷ marks) (place ∷ ls) us = if place us then true else any_met marks ls us
any_met (false ∷ marks) (place ∷ ls) us = any_met marks ls us

-- the same of the marks below a place before a token, and of those after it
abbrev pub left : ℕ → (now next : List Bool) → List (List Token → Bool) → Token → List Token → Bool
left n now next ls t us = if any_met (take n now) ls (t ∷ us) then true else any_met next ls us

-- a place tells what its step does
abbrev pub IsPlace : List (List Token → Bool) → ℕ → Step → Type 0
IsPlace ls n step = (us : List Token) → met_at ls n us ≡ step_met step (take n ls) us

-- the marks after those that a step leads to without a byte
abbrev pub led : Step → ℕ → List Bool → List Bool
led End n marks = marks
led (Byte own to) n marks = marks
led (One set to) n marks = marks
led (Many set to) n marks = marked marks to n
led (Either way other) n marks = marked (marked marks way n) other n

-- whether a step is the text's end
abbrev pub is_end : Step → Bool
is_end End = true
is_end (Byte own to) = false
is_end (One set to) = false
is_end (Many set to) = false
is_end (Either way other) = false

-- whether a step takes a byte
abbrev pub takes_byte : Step → ℕ → Bool
takes_byte End b = false
takes_byte (Byte own to) b = is_in (Only own) b
takes_byte (One set to) b = is_in set b
takes_byte (Many set to) b = is_in set b
takes_byte (Either way other) b = false

-- So many of the tokens, at most, with a star after them, are matched.
pub record IsFar (told : List Token → Bool) (ts : List Token) (n : ℕ) : Type 0 where
  pub within : n ≤ length ts
  pub met : 0 < n → told (take n ts ++ star ∷ []) ≡ true
  pub none : (more : ℕ) → n < more → more ≤ length ts → told (take more ts ++ star ∷ []) ≡ false

-- tokens, then a byte that means itself, and then any
abbrev pub followed : List Token → ℕ → List Token
followed ts b = ts ++ literal b ∷ star ∷ []

-- So many of the tokens, at most, a text of one of the forms begins with.
pub record IsFront (forms : List Forms.Form) (ts : List Token) (n : ℕ) : Type 0 where
  pub within : n ≤ length ts
  pub met : 0 < n → Forms.can_begin forms (take n ts) ≡ true
  pub none : (more : ℕ) → n < more → more ≤ length ts → Forms.can_begin forms (take more ts) ≡ false
