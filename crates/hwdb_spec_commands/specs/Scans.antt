-- What `scan` prints of the events of a keyboard: for each key that is pressed its scan code, the key it makes, and the line to write. The
-- form of events is from linux/input.h, for 64 bits, and their numbers from linux/input-event-codes.h. The form of lines is our choice.
use Rattle.std.specs.Fmt.{decimal, digits}
use Rattle.std.specs.Option.{option_map_or}
use Rattle.std.specs.Prelude.{Bool, false, ℕ, List, [], ◌∷◌, ◌++◌, ◌==◌, None, Option, Some, codes, find, flat_map, if◌then◌else◌, length, take}
use Rattle.hwdb_spec.specs.Folders.{same}
use Rattle.hwdb_spec.specs.Format.{number_at}
use Rattle.hwdb_spec.specs.Lines.{byte, is, pieces}
use Rattle.hwdb_spec_commands.specs.Properties.{after_word, word}
use Rattle.hwdb_spec_commands.specs.declared.vocabulary.TheConstants.{KEY_NAMES}

-- ---- records

-- The records of some bytes, after the bytes of one that has begun. Each is a `struct input_event` of 24 bytes: two times of eight, a type
-- and a code of two, and a value of four.
unfoldable pub records_after : (begun : List ℕ) → List ℕ → List (List ℕ)
records_after begun [] = []
records_after begun (b ∷ more) =
    if length begun == 23 then (begun ++ b ∷ []) ∷ records_after [] more else records_after (begun ++ b ∷ []) more

-- ---- events

-- an event: its type, its code, and its value as a number without a sign
pub record Event : Type 0 where
  pub kind : ℕ
  pub code : ℕ
  pub value : ℕ

-- that of a record, whose numbers have their lowest byte first
abbrev pub event_of : (bytes : List ℕ) → Event
event_of bytes = record { kind = number_at 2 16 bytes; code = number_at 2 18 bytes; value = number_at 4 20 bytes }

-- whether a report ends: EV_SYN, SYN_REPORT
abbrev pub ends_report : Event → Bool
ends_report e = if e.kind == 0 then e.code == 0 else false

-- whether it tells the scan code of the key that comes next: EV_MSC, MSC_SCAN
abbrev pub is_scan_code : Event → Bool
is_scan_code e = if e.kind == 4 then e.code == 4 else false

-- whether it is of a key: EV_KEY
abbrev pub is_of_key : Event → Bool
is_of_key e = e.kind == 1

-- whether a key is pressed: not let go, and not repeated
abbrev pub is_press : Event → Bool
is_press e = if is_of_key e then e.value == 1 else false

-- The scan code that is known after an event: of the next key in the same report. A key takes it, so that it is of no other one.
abbrev pub code_after : (known : Option ℕ) → Event → Option ℕ
code_after known e = if is_scan_code e then Some e.value else (if is_of_key e then None else (if ends_report e then None else known))

-- ---- lines

-- the name of a key, the first of the table that has its code; the number if none has
abbrev pub key_name : (table : List ℕ) (code : ℕ) → List ℕ
key_name table code = option_map_or word (find (λ row. same (after_word row) (decimal code)) (pieces (is (byte "\n")) table)) (decimal code)

-- a scan code, as names of properties have it: in hexadecimal digits, in lower case
abbrev pub hexadecimal : (code : ℕ) → List ℕ
hexadecimal code = digits 16 false code

-- the line to write for a key: the property that has its scan code keeps making it
abbrev pub property_line : (name scan_code : List ℕ) → List ℕ
property_line name scan_code = codes "KEYBOARD_KEY_" ++ (scan_code ++ (codes "=" ++ (name ++ codes "\n")))

-- the line of a key: its scan code, its name, and the line to write
abbrev pub coded_line : (name scan_code : List ℕ) → List ℕ
coded_line name scan_code = scan_code ++ (codes " " ++ (name ++ (codes " " ++ property_line name scan_code)))

-- that of one of which no scan code is known: no property is for it
abbrev pub uncoded_line : (name : List ℕ) → List ℕ
uncoded_line name = codes "- " ++ (name ++ codes " -\n")

-- that of one with this name
abbrev pub named_line : (name : List ℕ) (known : Option ℕ) → List ℕ
named_line name None = uncoded_line name
named_line name (Some scan_code) = coded_line name (hexadecimal scan_code)

-- the line of a key that is pressed
unfoldable pub pressed_line : (known : Option ℕ) (code : ℕ) → List ℕ
pressed_line known code = named_line (key_name KEY_NAMES.now code) known

-- what an event adds
abbrev pub lines_of : (known : Option ℕ) → Event → List (List ℕ)
lines_of known e = if is_press e then pressed_line known e.code ∷ [] else []

-- the lines of some records, after others that leave a scan code known
unfoldable pub lines_from : (known : Option ℕ) → (records : List (List ℕ)) → List (List ℕ)
lines_from known [] = []
lines_from known (r ∷ more) = lines_of known (event_of r) ++ lines_from (code_after known (event_of r)) more

-- as many lines as are asked for; all of them without a number
abbrev pub counted : (count : Option ℕ) → List (List ℕ) → List (List ℕ)
counted None lines = lines
counted (Some n) lines = take n lines

-- what is printed of some bytes
unfoldable pub scan_text : (count : Option ℕ) (bytes : List ℕ) → List ℕ
scan_text count bytes = flat_map (λ (line : List ℕ). line) (counted count (lines_from None (records_after [] bytes)))
