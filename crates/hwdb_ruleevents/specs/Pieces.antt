-- The pieces of a value: bytes, and variables that stand for other texts, after udev(7), 'string substitutions', and `get_subst_type` of
-- udev-event.c (systemd 257).
use Rattle.std.specs.Prelude.{List, [], ◌∷◌, Bool, true, false, if◌then◌else◌, ℕ, zero, suc, ◌==◌, ◌+◌, nat_lt, nat_eq, take, drop, length, codes, Option, Some, None}
use Rattle.std.specs.List.{starts_with, position_or_len}
use Rattle.hwdb_spec.specs.Lines.{byte, begins_with}
use Rattle.hwdb_rulefiles.specs.RuleKeys.{or_else}
use Rattle.hwdb_rulefiles.specs.RulePairs.{is_brace}
use Rattle.hwdb_ruleevents.specs.declared.pieces.Variable.{Variable}
use Rattle.hwdb_ruleevents.specs.declared.pieces.Variable.TheVariants.{Devnode, Attr, Env, Kernel, Number, Driver, Devpath, Id, Major, Minor, ProgramResult, Parent, Name, Links, Root, Sys}

-- a byte as it is, or a variable, with what is in braces
pub data Piece : Type 0 where
  Byte : ℕ → Piece
  Stands : Variable → (argument : List ℕ) → Piece

-- a variable's name, and how long it is
pub record Word : Type 0 where
  pub variable : Variable
  pub len : ℕ

abbrev pub word : Variable → (len : ℕ) → Option Word
word variable len = Some (record { variable = variable; len = len })

-- the long name that a text begins with: the first of udev's table, in its order
abbrev pub first_names : List ℕ → Option Word
first_names text =
    if starts_with nat_eq text (codes "devnode") then word Devnode 7 else
    (if starts_with nat_eq text (codes "tempnode") then word Devnode 8 else
    (if starts_with nat_eq text (codes "attr") then word Attr 4 else
    (if starts_with nat_eq text (codes "sysfs") then word Attr 5 else
    (if starts_with nat_eq text (codes "env") then word Env 3 else
    (if starts_with nat_eq text (codes "kernel") then word Kernel 6 else None)))))

abbrev pub middle_names : List ℕ → Option Word
middle_names text =
    if starts_with nat_eq text (codes "number") then word Number 6 else
    (if starts_with nat_eq text (codes "driver") then word Driver 6 else
    (if starts_with nat_eq text (codes "devpath") then word Devpath 7 else
    (if starts_with nat_eq text (codes "id") then word Id 2 else
    (if starts_with nat_eq text (codes "major") then word Major 5 else
    (if starts_with nat_eq text (codes "minor") then word Minor 5 else None)))))

abbrev pub last_names : List ℕ → Option Word
last_names text =
    if starts_with nat_eq text (codes "result") then word ProgramResult 6 else
    (if starts_with nat_eq text (codes "parent") then word Parent 6 else
    (if starts_with nat_eq text (codes "name") then word Name 4 else
    (if starts_with nat_eq text (codes "links") then word Links 5 else
    (if starts_with nat_eq text (codes "root") then word Root 4 else
    (if starts_with nat_eq text (codes "sys") then word Sys 3 else None)))))

abbrev pub named : List ℕ → Option Word
named text = or_else (first_names text) (or_else (middle_names text) (last_names text))

-- the variable of a letter
abbrev pub letter : ℕ → Option Variable
letter b =
    if b == byte "N" then Some Devnode else (if b == byte "s" then Some Attr else (if b == byte "E" then Some Env
    else (if b == byte "k" then Some Kernel else (if b == byte "n" then Some Number else (if b == byte "d" then Some Driver
    else (if b == byte "p" then Some Devpath else (if b == byte "b" then Some Id else (if b == byte "M" then Some Major
    else (if b == byte "m" then Some Minor else (if b == byte "c" then Some ProgramResult else (if b == byte "P" then Some Parent
    else (if b == byte "D" then Some Name else (if b == byte "L" then Some Links else (if b == byte "r" then Some Root
    else (if b == byte "S" then Some Sys else None)))))))))))))))

abbrev pub by_letter : Option Variable → Option Word
by_letter None = None
by_letter (Some variable) = word variable 1

abbrev pub lettered : List ℕ → Option Word
lettered [] = None
lettered (b ∷ rest) = by_letter (letter b)

-- what a text begins with, and how many bytes that has
pub record Head : Type 0 where
  pub piece : Piece
  pub len : ℕ

abbrev pub head : Piece → (len : ℕ) → Option Head
head piece len = Some (record { piece = piece; len = len })

abbrev pub byte_head : ℕ → (len : ℕ) → Option Head
byte_head b len = head (Byte b) len

-- two variables that have no text without braces (`udev_event_subst_format`)
abbrev pub needs_argument : Variable → Bool
needs_argument Attr = true
needs_argument Env = true
needs_argument variable = false

-- A variable without braces, or with them. The text of a value ends at a variable whose braces have no end, or nothing in them, or 1024
-- bytes or more (UDEV_PATH_SIZE).
abbrev pub bare : Word → Option Head
bare w = if needs_argument w.variable then None else head (Stands w.variable []) (w.len + 1)

abbrev pub in_braces : Word → (text : List ℕ) → Option Head
in_braces w text =
    let n = position_or_len is_brace text in
    if n == length text then None
    else (if n == 0 then None else (if nat_lt 1023 n then None else head (Stands w.variable (take n text)) (w.len + 3 + n)))

abbrev pub with_argument : Word → (rest : List ℕ) → Option Head
with_argument w rest = if begins_with (byte "{") rest then in_braces w (drop 1 rest) else bare w

abbrev pub after_mark : ℕ → Option Word → (rest : List ℕ) → Option Head
after_mark mark None rest = byte_head mark 1
after_mark mark (Some w) rest = with_argument w (drop w.len rest)

-- what a mark begins: two of them are one byte, and one before no variable is a byte as it is
abbrev pub marked : ℕ → Option Word → (rest : List ℕ) → Option Head
marked mark found rest = if begins_with mark rest then byte_head mark 2 else after_mark mark found rest

-- what a text begins with; None if the text of the value ends there
abbrev pub head_of : ℕ → (rest : List ℕ) → Option Head
head_of b rest =
    if b == byte "$" then marked b (named rest) rest else (if b == byte "%" then marked b (lettered rest) rest else byte_head b 1)

-- a piece, and what comes after its bytes
abbrev pub before : Option Head → (ℕ → List Piece) → List Piece
before None rest = []
before (Some h) rest = h.piece ∷ rest h.len

-- the first pieces of a text, `most` at most
unfoldable pub first_pieces : (most : ℕ) → List ℕ → List Piece
first_pieces zero text = []
first_pieces (suc most) [] = []
first_pieces (suc most) (b ∷ rest) = before (head_of b rest) (λ len. first_pieces most (drop len (b ∷ rest)))

-- the pieces of a value, which has no more pieces than bytes
abbrev pub pieces : List ℕ → List Piece
pieces value = first_pieces (length value) value
