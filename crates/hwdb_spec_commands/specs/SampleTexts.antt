-- A short text that a pattern matches, mostly. Our choice.
use Rattle.std.specs.Prelude.{◌∷◌, ℕ, Bool, false, true, List, None, Option, Some, [], codes, find, flat_map, if◌then◌else◌}
use Rattle.hwdb_spec.specs.Forms.{is_star}
use Rattle.hwdb_spec.specs.Patterns.{Token, admits_byte, bracket, literal, one, star, tokens}

-- the byte of a token that is one
abbrev pub literal_of : Token → Option ℕ
literal_of star = None
literal_of one = None
literal_of (bracket found) = None
literal_of (literal own) = Some own

-- whether a token is `?`
abbrev pub is_one : Token → Bool
is_one star = false
is_one one = true
is_one (bracket found) = false
is_one (literal own) = false

-- bytes that stand for `?` or a bracket, the first that fits
unfoldable pub usual : List ℕ
usual = codes "0aA_123456789bcdefghijklmnopqrstuvwxyzBCDEFGHIJKLMNOPQRSTUVWXYZ-.:,;/+()&#!=@[]{}<>$%'*?^`|~ "

-- a byte that may be there
abbrev pub or_zero : Option ℕ → ℕ
or_zero None = 0
or_zero (Some b) = b

-- the first of these bytes that a token takes
abbrev pub usual_byte : Token → ℕ
usual_byte token = or_zero (find (admits_byte token) usual)

-- a byte that a token takes: its own, or a usual one
abbrev pub own_or_usual : Option ℕ → Token → ℕ
own_or_usual None token = usual_byte token
own_or_usual (Some own) token = own

-- the byte that stands for a token
abbrev pub byte_of : Token → ℕ
byte_of token = own_or_usual (literal_of token) token

-- what stands for a token: this text for a star, and else a byte
abbrev pub piece_of : (star : List ℕ) → Token → List ℕ
piece_of text token = if is_star token then text else byte_of token ∷ []

-- a text with this one for each star of a pattern
abbrev pub text_of : (star : List ℕ) → (pattern : List ℕ) → List ℕ
text_of text pattern = flat_map (piece_of text) (tokens pattern)
