-- A test file that holds of a database, as `test --record` prints it: for each device the properties that the database gives it, each below a
-- comment with the file and line that gave it. And what no test file can say. Our choice.
use Rattle.std.specs.Prelude.{Bool, List, [], ◌∷◌, ◌++◌, ◌&&◌, None, Option, Some, ℕ, codes, find, flat_map, if◌then◌else◌, length, nat_lt, not, option_map, take}
use Rattle.std.specs.Option.{option_or}
use Rattle.hwdb_spec.specs.Folders.{same}
use Rattle.hwdb_spec.specs.Lines.{Line, begins_with, byte, clean_line, has, is_dropped, is_long, is_match, is_none}
use Rattle.hwdb_spec.specs.Texts.{max_file, place_text}
use Rattle.hwdb_spec.specs.Tree.{Tree, answers}
use Rattle.hwdb_spec_commands.specs.Reports.{max_shown, shown}
use Rattle.hwdb_spec_commands.specs.Wanted.{GivenValue, counting, is_given, wants_value}

-- ---- the text

-- the comment above a property: `# `, the path, `:`, the line
abbrev pub comment_line : GivenValue → List ℕ
comment_line g = codes "# " ++ place_text g.path g.line

-- the line that wants a property: a space, and `KEY=VALUE`
abbrev pub wanting_line : GivenValue → List ℕ
wanting_line g = byte " " ∷ (g.key ++ byte "=" ∷ g.value)

-- both lines
abbrev pub property_lines : GivenValue → List (List ℕ)
property_lines g = comment_line g ∷ wanting_line g ∷ []

-- the lines that want what a device has; if it has nothing, one that wants nothing else than that
abbrev pub wanting_lines : List GivenValue → List (List ℕ)
wanting_lines [] = codes " =" ∷ []
wanting_lines (g ∷ more) = flat_map property_lines (g ∷ more)

-- the lines of a device's record: the device, what it has, and an empty line
abbrev pub record_lines : Tree → (device : List ℕ) → List (List ℕ)
record_lines t device = device ∷ (wanting_lines (counting (answers device t)) ++ [] ∷ [])

-- a line with a newline after it
abbrev pub ended : (line : List ℕ) → List ℕ
ended line = line ++ byte "\n" ∷ []

-- the test file of some devices: the lines of their records, one after another
abbrev pub recorded_text : Tree → (devices : List (List ℕ)) → List ℕ
recorded_text t devices = flat_map ended (flat_map (record_lines t) devices)

-- ---- what a test file can say

-- a text as a line alone
abbrev pub lone_line : List ℕ → Line
lone_line text = record { number = 1; text = text }

-- whether a text is one line
abbrev pub is_one_line : List ℕ → Bool
is_one_line text = not (has (byte "\n") text)

-- whether a line is read as it is: it is one line that isn't dropped, and no comment and no blanks are taken off its end
abbrev pub is_plain : Line → Bool
is_plain l = is_one_line l.text && (not (is_dropped l) && same (clean_line l).text l.text)

-- whether a line names a device of a record
abbrev pub names_device : Line → Bool
names_device l = is_plain l && (is_match l && not (is_long l))

-- whether a line wants this property
abbrev pub wants_given : GivenValue → Line → Bool
wants_given g l = is_plain l && (wants_value l && is_given l (g.key, g.value))

-- whether both lines of a property say it
abbrev pub is_sayable : GivenValue → Bool
is_sayable g = is_one_line (comment_line g) && wants_given g (lone_line (wanting_line g))

-- ---- what is said of what it can't say

-- the bytes of a text, as `check` shows them: those at its front, if it is longer than a line that is shown
abbrev pub shown_front : List ℕ → List ℕ
shown_front text = if nat_lt max_shown (length text) then shown (take max_shown text) ++ codes "..." else shown text

-- why no line names a device
abbrev pub unnamed_why : (device : List ℕ) → List ℕ
unnamed_why device =
    if is_none device then codes "it is empty"
    else if has (byte "\n") device then codes "it has a newline"
    else if has 0 device then codes "it has a byte 0"
    else if has (byte "#") device then codes "it has a #, which begins a comment"
    else if begins_with (byte " ") device then codes "it begins with a space"
    else if is_long (lone_line device) then codes "it is longer than 4096 bytes"
    else codes "it ends with a blank"

-- the words of a device that no line names: its bytes, why, and what to do
abbrev pub unnamed_words : (device : List ℕ) → List ℕ
unnamed_words device = codes "no test file can name the device '" ++ (shown_front device ++ (codes "': " ++ (unnamed_why device ++ codes "; leave it out")))

-- the end of the words of a property of a device: why, and what to do
abbrev pub unsaid_end : (device : List ℕ) → List ℕ
unsaid_end device = codes ": its line would be read as another one; leave out the device '" ++ (shown_front device ++ codes "'")

-- the words of a property of a device that no line wants: the property, where it comes from, why, and what to do
abbrev pub unsaid_words : (device : List ℕ) → GivenValue → List ℕ
unsaid_words device g =
    codes "no test file can say '" ++ (shown_front (g.key ++ byte "=" ∷ g.value) ++ (codes "' of " ++ (place_text g.path g.line ++ unsaid_end device)))

-- those of the first property of a device that no line wants, if there is one
abbrev pub first_unsaid : (device : List ℕ) → List GivenValue → Option (List ℕ)
first_unsaid device given = option_map (unsaid_words device) (find (λ g. not (is_sayable g)) given)

-- those of a device, or of the first of its properties
abbrev pub unsaid_of : Tree → (device : List ℕ) → Option (List ℕ)
unsaid_of t device = if names_device (lone_line device) then first_unsaid device (counting (answers device t)) else Some (unnamed_words device)

-- those of the first of some devices
abbrev pub unsaid_among : Tree → (devices : List (List ℕ)) → Option (List ℕ)
unsaid_among t [] = None
unsaid_among t (device ∷ more) = option_or (unsaid_of t device) (unsaid_among t more)

-- the words of a text that is longer than a file may be that is read
abbrev pub too_long_words : List ℕ
too_long_words = codes "the test file would be longer than 268435456 bytes; record fewer devices at once"

-- these words, if a text is longer
abbrev pub long_words : (text : List ℕ) → Option (List ℕ)
long_words text = if nat_lt max_file (length text) then Some too_long_words else None

-- the words of why no test file says what a database gives some devices; nothing if one does
abbrev pub unsaid : Tree → (devices : List (List ℕ)) → Option (List ℕ)
unsaid t devices = option_or (unsaid_among t devices) (long_words (recorded_text t devices))

-- the words of an option that doesn't fit
abbrev pub no_json_text : List ℕ
no_json_text = codes "--record prints a test file, which is never JSON: leave out --json"
