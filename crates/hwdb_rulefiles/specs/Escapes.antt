-- Values with `e` before their quote: escapes as in C, after `cunescape_one` and `utf8_encode_unichar` (systemd 257).
use Rattle.std.specs.Prelude.{List, [], ◌∷◌, ◌++◌, Bool, true, false, if◌then◌else◌, ℕ, zero, suc, ◌==◌, ◌+◌, ◌-◌, ◌*◌, ◌/◌, ◌%◌, nat_le, nat_lt, drop, length, Option, Some, None}
use Rattle.hwdb_spec.specs.Lines.{byte, begins_with}

-- What a text begins with: a byte, or a character in UTF-8 (`wide`); and how many bytes that has in the text. It is itself,
-- or an escape.
pub record Piece : Type 0 where
  pub code : ℕ
  pub wide : Bool
  pub len : ℕ

abbrev pub piece : (code : ℕ) → (wide : Bool) → (len : ℕ) → Option Piece
piece code wide len = Some (record { code = code; wide = wide; len = len })

-- the byte that a letter after a backslash stands for; `s` is a space
abbrev pub letter : ℕ → Option ℕ
letter b =
    if b == byte "a" then Some 7 else (if b == byte "b" then Some 8 else (if b == byte "f" then Some 12 else (if b == byte "n" then Some 10
    else (if b == byte "r" then Some 13 else (if b == byte "t" then Some 9 else (if b == byte "v" then Some 11 else (if b == byte "s" then Some 32
    else (if b == byte "\\" then Some 92 else (if b == byte "\"" then Some 34 else (if b == byte "'" then Some 39 else None))))))))))

abbrev pub is_between : (low high : ℕ) → ℕ → Bool
is_between low high b = if nat_le low b then nat_le b high else false

-- the value of a digit of base 16
abbrev pub hex_digit : ℕ → Option ℕ
hex_digit b =
    if is_between (byte "0") (byte "9") b then Some (b - byte "0")
    else (if is_between (byte "a") (byte "f") b then Some (b - byte "a" + 10) else (if is_between (byte "A") (byte "F") b then Some (b - byte "A" + 10) else None))

-- the value of a digit of base 8
abbrev pub octal_digit : ℕ → Option ℕ
octal_digit b = if is_between (byte "0") (byte "7") b then Some (b - byte "0") else None

-- two digits, of which the second counts `base` times less
abbrev pub pair_of : ℕ → Option ℕ → Option ℕ → Option ℕ
pair_of base None low = None
pair_of base (Some h) None = None
pair_of base (Some h) (Some l) = Some (h * base + l)

-- the digit that a text begins with
abbrev pub first : (ℕ → Option ℕ) → List ℕ → Option ℕ
first digit [] = None
first digit (b ∷ rest) = digit b

abbrev pub hex_byte : List ℕ → Option ℕ
hex_byte text = pair_of 16 (first hex_digit text) (first hex_digit (drop 1 text))

abbrev pub hex_four : List ℕ → Option ℕ
hex_four text = pair_of 256 (hex_byte text) (hex_byte (drop 2 text))

abbrev pub hex_eight : List ℕ → Option ℕ
hex_eight text = pair_of 65536 (hex_four text) (hex_four (drop 4 text))

abbrev pub octal_two : List ℕ → Option ℕ
octal_two text = pair_of 8 (first octal_digit text) (first octal_digit (drop 1 text))

abbrev pub octal_three : List ℕ → Option ℕ
octal_three text = pair_of 8 (octal_two text) (first octal_digit (drop 2 text))

-- a character in UTF-8 (RFC 3629)
abbrev pub utf8 : ℕ → List ℕ
utf8 c =
    if nat_lt c 128 then c ∷ []
    else (if nat_lt c 2048 then (192 + c / 64) ∷ (128 + c % 64) ∷ []
    else (if nat_lt c 65536 then (224 + c / 4096) ∷ (128 + c / 64 % 64) ∷ (128 + c % 64) ∷ []
    else (240 + c / 262144) ∷ (128 + c / 4096 % 64) ∷ (128 + c / 64 % 64) ∷ (128 + c % 64) ∷ []))

-- a character (`unichar_is_valid`): no surrogate, and none that Unicode keeps for no use
abbrev pub is_character : ℕ → Bool
is_character c =
    if nat_lt 1114111 c then false
    else (if is_between 55296 57343 c then false else (if is_between 64976 65007 c then false else (if nat_le 65534 (c % 65536) then false else true)))

-- a byte that isn't 0
abbrev pub coded_byte : Option ℕ → Option Piece
coded_byte None = None
coded_byte (Some b) = if b == 0 then None else (if nat_lt 255 b then None else piece b false 4)

-- a character that isn't 0
abbrev pub coded_character : Option ℕ → (len : ℕ) → Option Piece
coded_character None len = None
coded_character (Some c) len = if c == 0 then None else piece c true len

-- a character of 32 bits
abbrev pub valid : Option ℕ → Option ℕ
valid None = None
valid (Some c) = if is_character c then Some c else None

-- an escape with a number: two digits after x, four after u, eight after U, or three octal ones
abbrev pub coded : List ℕ → Option Piece
coded text =
    if begins_with (byte "x") text then coded_byte (hex_byte (drop 1 text))
    else (if begins_with (byte "u") text then coded_character (hex_four (drop 1 text)) 6
    else (if begins_with (byte "U") text then coded_character (valid (hex_eight (drop 1 text))) 10 else coded_byte (octal_three text)))

abbrev pub lettered : Option ℕ → Option Piece → Option Piece
lettered (Some c) other = piece c false 2
lettered None other = other

-- what comes after a backslash
abbrev pub escape_of : List ℕ → Option Piece
escape_of text = lettered (first letter text) (coded text)

-- the piece that a text begins with, which has a first byte
abbrev pub piece_of : ℕ → (rest : List ℕ) → Option Piece
piece_of b rest = if b == byte "\\" then escape_of rest else piece b false 1

abbrev pub bytes_of : Piece → List ℕ
bytes_of p = if p.wide then utf8 p.code else p.code ∷ []

-- texts one after the other, if the second is one
abbrev pub onto : List ℕ → Option (List ℕ) → Option (List ℕ)
onto front None = None
onto front (Some rest) = Some (front ++ rest)

-- a piece, and what comes after its bytes
abbrev pub followed : Option Piece → (ℕ → Option (List ℕ)) → Option (List ℕ)
followed None after = None
followed (Some p) after = onto (bytes_of p) (after p.len)

-- what the first pieces of a text say, `most` at most; None if one isn't an escape of C
unfoldable pub first_pieces : (most : ℕ) → List ℕ → Option (List ℕ)
first_pieces zero text = Some []
first_pieces (suc most) [] = Some []
first_pieces (suc most) (b ∷ rest) = followed (piece_of b rest) (λ len. first_pieces most (drop len (b ∷ rest)))

-- what a text with escapes says: it has no more pieces than bytes
abbrev pub unescaped : List ℕ → Option (List ℕ)
unescaped text = first_pieces (length text) text
