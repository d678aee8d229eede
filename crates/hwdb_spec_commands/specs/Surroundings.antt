-- What is said of a property because of what is around it: the patterns of its record, and the other properties that these are
-- given. Below which prefixes a property is read is from the heads of systemd's hwdb files and from udev's rules. So are the prefixes below
-- which all names are known. Which properties of a wheel belong together is from 70-mouse.hwdb and parse_hwdb.py. How Linux logs the code
-- of a key is from its driver atkbd. The rest is our choice.
use Rattle.std.specs.Prelude.{Bool, true, false, ℕ, List, [], ◌∷◌, ◌++◌, ◌+◌, ◌==◌, if◌then◌else◌, codes, drop, filter, is_some, length, nat_eq, nat_lt, not, take}
use Rattle.std.specs.List.{list_all, list_any, starts_with}
use Rattle.hwdb_spec.specs.Assignment.{Assignment}
use Rattle.hwdb_spec.specs.Folders.{same}
use Rattle.hwdb_spec_commands.specs.FormTable.{prefixes}
use Rattle.hwdb_spec.specs.Forms.{prefix_size}
use Rattle.hwdb_spec.specs.Lines.{byte, is, is_none, pieces, trimmed}
use Rattle.hwdb_spec.specs.Patterns.{in_span}
use Rattle.hwdb_spec_commands.specs.Properties.{after_word, before, did_you_mean, is_choice, is_lower_hex_digit, is_made_of, lost_row, name_misuse, property_row, row_for, row_form, word}
use Rattle.hwdb_spec.specs.Records.{assignments}
use Rattle.hwdb_spec_commands.specs.declared.vocabulary.TheConstants.{COMPANIONS, KNOWN_BELOW, PROPERTIES}

-- the assignments of a line of a file
abbrev pub line_assignments : (file : List ℕ) → (line : ℕ) → List Assignment
line_assignments file line = filter (λ a. is line a.position.line) (assignments (record { path = []; priority = 1 }) file)

-- ---- Prefixes

-- the words of a row for the prefixes below which its property is read
abbrev pub row_prefixes : List ℕ → List ℕ
row_prefixes row = word (after_word (after_word row))

-- whether a property with this row is read below this prefix, without its colon
abbrev pub is_read_by_row : (row prefix : List ℕ) → Bool
is_read_by_row row prefix = if same (row_prefixes row) (codes "*") then true else is_choice (row_prefixes row) prefix

-- whether a byte is in names that rules ask for: a letter, a digit, `.` or `_`
abbrev pub is_name_byte : ℕ → Bool
is_name_byte b = list_any (in_span b) ((46, 46) ∷ (48, 57) ∷ (65, 90) ∷ (95, 95) ∷ (97, 122) ∷ [])

-- whether a name has another byte, as `ENV{ID_PDA}` and `ID-PDA` have; blanks at its end are told otherwise
abbrev pub is_odd_name : List ℕ → Bool
is_odd_name key = not (list_all is_name_byte (trimmed key))

-- Whether a property that is in no row may be read below this prefix. Below some prefixes all names are known, so that no other one is
-- read there. A name with other bytes is read nowhere. One of which `misuse` says something isn't told once more.
abbrev pub may_be_read : (key prefix : List ℕ) → Bool
may_be_read key prefix =
    if is_odd_name key then is_some (name_misuse key) else
    (if is_choice KNOWN_BELOW.now prefix then is_some (name_misuse key) else true)

-- whether a property is read below this prefix
abbrev pub is_read_below : (key prefix : List ℕ) → Bool
is_read_below key prefix =
    if is_none (property_row key) then may_be_read key prefix else is_read_by_row (property_row key) prefix

-- ---- Codes of a keyboard that Linux logs otherwise

-- two hexadecimal digits of which the first is less than 8
abbrev pub is_seven_bits : List ℕ → Bool
is_seven_bits text =
    if length text == 2 then
    (if list_all (λ b. in_span b (48, 55)) (take 1 text) then is_made_of is_lower_hex_digit text else false) else false

-- Whether a property has a code as Linux logs it: `e0` and seven bits. The driver atkbd puts both into one byte, whose first bit is 1
-- (atkbd_compat_scancode of atkbd.c).
abbrev pub has_logged_code : List ℕ → Bool
has_logged_code key = if starts_with nat_eq key (codes "KEYBOARD_KEY_e0") then is_seven_bits (drop 15 key) else false

-- whether an assignment has such a code, and its pattern is of that driver
abbrev pub is_logged : Assignment → Bool
is_logged a =
    if has_logged_code a.position.key then starts_with nat_eq a.position.pattern (codes "evdev:atkbd:") else false

-- a digit less than 8, with the bit before it
abbrev pub with_bit : ℕ → ℕ
with_bit b = if nat_lt b 50 then b + 8 else (if nat_lt b 56 then b + 47 else b)

-- a code with that bit
abbrev pub raised : List ℕ → List ℕ
raised [] = []
raised (b ∷ more) = with_bit b ∷ more

-- the beginning of a pattern up to its first colon, and with it; nothing if a wildcard is before that
abbrev pub prefix_of : List ℕ → List ℕ
prefix_of pattern = take (prefix_size pattern) pattern

-- Whether an assignment is elsewhere. Its pattern has a prefix that udev asks with, and its property isn't read below that. Or its code
-- is one that Linux logs, and its driver has another one.
abbrev pub is_elsewhere : Assignment → Bool
is_elsewhere a =
    if is_logged a then true else
    (if is_read_below a.position.key (before (byte ":") (prefix_of a.position.pattern)) then false
    else list_any (same (prefix_of a.position.pattern)) prefixes)

-- whether a line of a file is a property that isn't read: it is given to patterns, and is elsewhere with each of them
abbrev pub is_unread : (file : List ℕ) → (line : ℕ) → Bool
is_unread file line =
    if is_none (line_assignments file line) then false else list_all is_elsewhere (line_assignments file line)

-- the code that a driver has, of one that Linux logs
abbrev pub logged_hint : (key : List ℕ) → List ℕ
logged_hint key = codes "Linux logs e0 before a code: below evdev:atkbd: write KEYBOARD_KEY_" ++ raised (drop 15 key)

-- where a property is read
abbrev pub elsewhere_hint : (key : List ℕ) → List ℕ
elsewhere_hint key =
    if has_logged_code key then logged_hint key else codes "it is read below these prefixes: " ++ row_prefixes (property_row key)

-- what to do about a name that is in no row, and has no words but those of one that is known, or has others
abbrev pub bare_name_hint : (key : List ℕ) → List ℕ
bare_name_hint key =
    if is_odd_name key then codes "write the name alone, in letters, digits and _"
    else codes "below these prefixes all names are known: " ++ KNOWN_BELOW.now

-- what to do about a property that nothing is known to read
abbrev pub unknown_hint : (key : List ℕ) → List ℕ
unknown_hint key =
    if is_none (lost_row PROPERTIES.now key) then bare_name_hint key else did_you_mean (word (lost_row PROPERTIES.now key))

-- what to do about a property that isn't read, which is known or not
abbrev pub unread_hint : (known : Bool) → (key : List ℕ) → List ℕ
unread_hint known key = if known then elsewhere_hint key else unknown_hint key

-- ---- Properties that belong together

-- the properties with which alone a property is read, with commas between
abbrev pub companions_text : (key : List ℕ) → List ℕ
companions_text key = row_form (row_for COMPANIONS.now key)

-- whether one of some assignments gives a pattern a key
abbrev pub is_given : List Assignment → (pattern key : List ℕ) → Bool
is_given all pattern key = list_any (λ a. if same a.position.pattern pattern then same a.position.key key else false) all

-- whether an assignment is alone: its property belongs to another one, which its pattern isn't given
abbrev pub is_alone : List Assignment → Assignment → Bool
is_alone all a =
    list_any (λ key. not (is_given all a.position.pattern key)) (pieces (is (byte ",")) (companions_text a.position.key))

-- whether a line of a file is a property that lacks another one, for one of its patterns
abbrev pub is_unpaired : (file : List ℕ) → (line : ℕ) → Bool
is_unpaired file line = list_any (is_alone (assignments (record { path = []; priority = 1 }) file)) (line_assignments file line)

-- what a property is read with
abbrev pub unpaired_hint : (key : List ℕ) → List ℕ
unpaired_hint key = codes "give its record these too: " ++ companions_text key
