-- A test file: devices, and what is wanted of each; whether a database gives it, and what `test` prints. A test file looks like the
-- text files of hwdb(7). Our choice.
use Rattle.std.specs.Prelude.{Bool, true, false, ℕ, List, [], ◌∷◌, ◌++◌, ◌==◌, ◌||◌, if◌then◌else◌, Option, None, Some, codes, drop, filter, flat_map, length, map, not, take}
use Rattle.std.specs.List.{list_any}
use Rattle.std.specs.Fmt.{decimal}
use Rattle.json.specs.Json.{Json}
use Rattle.hwdb_spec.specs.Answers.{effective_of}
use Rattle.hwdb_spec.specs.Assignment.{Assignment}
use Rattle.hwdb_spec_commands.specs.Checks.{count_text}
use Rattle.hwdb_spec.specs.Explanations.{explained}
use Rattle.hwdb_spec_commands.specs.Findings.{format_if, told_fault}
use Rattle.hwdb_spec.specs.Folders.{Source, same}
use Rattle.hwdb_spec_commands.specs.Json.{array_of, json_line, number_json, object_of, text_json}
use Rattle.hwdb_spec.specs.Lines.{Line, begins_with, byte, clean, has, has_equals, has_key, is_blank, is_empty, is_none, is_property, key, lines, property, value}
use Rattle.hwdb_spec.specs.Records.{faults}
use Rattle.hwdb_spec_commands.specs.Reports.{hint_line, text_of_line}
use Rattle.hwdb_spec.specs.Texts.{place_text}
use Rattle.hwdb_spec.specs.Tree.{Tree, answers}
use Rattle.hwdb_spec.specs.declared.Fault.{Fault}
use Rattle.hwdb_spec.specs.declared.FaultKind.{FaultKind}
use Rattle.hwdb_spec.specs.declared.FaultKind.TheVariants.{EmptyKey, NoEquals}

-- ---- what a line wants

-- whether a line wants a value: it is `KEY=VALUE`
abbrev pub wants_value : Line → Bool
wants_value l = if has_equals l then has_key l else false

-- whether a line wants no other properties: it is `=` alone
abbrev pub wants_no_others : Line → Bool
wants_no_others l = if has_equals l then not (has_key l) else false

-- the key that a line speaks of: `KEY=VALUE` wants it, `!KEY` wants it away
abbrev pub wanted_key : Line → List ℕ
wanted_key l = if has_equals l then key l else drop 1 (property l)

-- whether a line speaks of a key by its name
abbrev pub names : (key : List ℕ) → Line → Bool
names key l = same key (wanted_key l)

-- whether a line is about a property with a key: it names it; `=` is about those that no line of its record names
abbrev pub is_about : (all : List Line) (l : Line) (key : List ℕ) → Bool
is_about all l key = if wants_no_others l then not (list_any (names key) all) else names key l

-- whether a property is the one that a line `KEY=VALUE` wants
abbrev pub is_given : (l : Line) (p : List ℕ × List ℕ) → Bool
is_given l p = if names p.0 l then same p.1 (value l) else false

-- Whether a line of a record holds of the properties of a device: `KEY=VALUE` is one of them; of the others it is about none.
abbrev pub holds : (all : List Line) (properties : List (List ℕ × List ℕ)) (l : Line) → Bool
holds all properties l =
    if wants_value l then list_any (is_given l) properties
    else not (list_any (λ p. is_about all l p.0) properties)

-- ---- records and malformed lines

-- a record of a test file: its devices, and what each of them is wanted to have
pub record Record : Type 0 where
  pub devices : List (List ℕ)
  pub lines : List Line

-- a record before its first line
abbrev pub no_record : Record
no_record = record { devices = []; lines = [] }

-- a record with one line more: a match line is a device
abbrev pub with_line : Record → Line → Record
with_line r l =
    if is_property l then record { devices = r.devices; lines = r.lines ++ l ∷ [] }
    else record { devices = r.devices ++ l.text ∷ []; lines = r.lines }

-- the records of clean lines, after what was read of the first one; an empty line ends a record
unfoldable pub records_from : Record → List Line → List Record
records_from r [] = r ∷ []
records_from r (l ∷ more) = if is_empty l then r ∷ records_from no_record more else records_from (with_line r l) more

-- the records of a test file
abbrev pub records : List ℕ → List Record
records file = records_from no_record (clean (lines file))

-- whether a text begins with another byte than a blank
abbrev pub begins_dark : List ℕ → Bool
begins_dark [] = false
begins_dark (b ∷ more) = not (is_blank b)

-- whether a faulty line is one of a test file all the same: `!KEY` has no `=`, and `=` alone has no key
abbrev pub is_wish : FaultKind → Line → Bool
is_wish NoEquals l = if begins_with (byte "!") (property l) then begins_dark (drop 1 (property l)) else false
is_wish EmptyKey l = is_none (value l)
is_wish kind l = false

-- whether the line of a fault is one all the same, without its comment
abbrev pub is_excused : Fault → (text : List ℕ) → Bool
is_excused f text = list_any (is_wish f.kind) (clean (record { number = f.line; text = text } ∷ []))

-- the malformed lines of a test file: its faults, as `check` has them, but for those of `!KEY` and `=`
abbrev pub malformed : (file : List ℕ) → List Fault
malformed file = filter (λ f. not (is_excused f (text_of_line (lines file) f.line))) (faults file)

-- ---- what is printed

-- a property that a database gives, and which file and line gave it
pub record GivenValue : Type 0 where
  pub key : List ℕ
  pub value : List ℕ
  pub path : List ℕ
  pub line : ℕ

-- the value that an answer gives a key
abbrev pub given_of : (key : List ℕ) → Assignment → GivenValue
given_of key f = record { key = key; value = f.value; path = f.path; line = f.position.line }

-- of each key the answer that counts, as `explain` has it
abbrev pub counting : List Assignment → List GivenValue
counting answers = flat_map (λ p. map (given_of p.0) (take 1 p.1)) (explained answers)

-- what a line wants, in words
abbrev pub wanted_text : Line → List ℕ
wanted_text l = if wants_no_others l then codes "nothing else" else property l

-- the line that says what a line of a test file wants
abbrev pub wanted_line : (path : List ℕ) → Line → List ℕ
wanted_line path l = place_text path l.number ++ (codes ": wanted " ++ (wanted_text l ++ byte "\n" ∷ []))

-- the line of the device
abbrev pub device_line : (device : List ℕ) → List ℕ
device_line device = codes "    device: " ++ (device ++ byte "\n" ∷ [])

-- what a device has instead, and which file and line gave it
abbrev pub given_text : Option GivenValue → List ℕ
given_text None = codes "nothing"
given_text (Some g) = g.key ++ byte "=" ∷ (g.value ++ (codes " by " ++ place_text g.path g.line))

-- the line of what it has instead
abbrev pub given_line : Option GivenValue → List ℕ
given_line given = codes "    given: " ++ (given_text given ++ byte "\n" ∷ [])

-- whether a device looks like a pattern: it has a `*` or a `?`
abbrev pub is_like_pattern : (device : List ℕ) → Bool
is_like_pattern device = has (byte "*") device || has (byte "?") device

-- what is said of such a device
abbrev pub device_hint : List ℕ
device_hint = codes "a match line of a test file is a device string, not a pattern: * and ? stand for themselves"

-- the line of that; nothing of another device
abbrev pub device_hint_line : (device : List ℕ) → List ℕ
device_hint_line device = if is_like_pattern device then hint_line device_hint else []

-- three lines on a line that doesn't hold: what it wants, of which device, and what that device has; a fourth if that looks like a pattern
abbrev pub failure_text : (path device : List ℕ) → Line → Option GivenValue → List ℕ
failure_text path device l given = wanted_line path l ++ (device_line device ++ (given_line given ++ device_hint_line device))

-- what a device has instead, as members of an object; none if it has nothing
abbrev pub given_members : Option GivenValue → List (List ℕ × Json)
given_members None = []
given_members (Some g) =
    (codes "key", text_json g.key) ∷ (codes "value", text_json g.value) ∷ (codes "given_path", text_json g.path)
    ∷ (codes "given_line", number_json g.line) ∷ []

-- what a line wants of which device, as members of an object
abbrev pub wanted_members : (path device : List ℕ) → Line → List (List ℕ × Json)
wanted_members path device l =
    (codes "path", text_json path) ∷ (codes "line", number_json l.number) ∷ (codes "device", text_json device)
    ∷ (codes "wanted", text_json (wanted_text l)) ∷ []

-- the first of what a device has instead, if it has something
abbrev pub first_given : List GivenValue → Option GivenValue
first_given [] = None
first_given (g ∷ more) = Some g

-- a property that a device has, as an object
abbrev pub given_json : GivenValue → Json
given_json g = object_of (given_members (Some g))

-- what a device has besides what the lines of its record name, as a member: an array with an object for each property
abbrev pub others_member : List GivenValue → List (List ℕ × Json)
others_member others = (codes "others", array_of (map given_json others)) ∷ []

-- what a device has instead, as members of an object: of `=` all that it has besides, of another line what it gives that line's key
abbrev pub instead_members : Line → List GivenValue → List (List ℕ × Json)
instead_members l instead = if wants_no_others l then others_member instead else given_members (first_given instead)

-- the hint on a device that looks like a pattern, as a member of an object; none of another device
abbrev pub hint_members : (device : List ℕ) → List (List ℕ × Json)
hint_members device = if is_like_pattern device then (codes "hint", text_json device_hint) ∷ [] else []

-- a line that doesn't hold, as an object
abbrev pub failure_json : (path device : List ℕ) → Line → List GivenValue → Json
failure_json path device l instead = object_of (wanted_members path device l ++ (instead_members l instead ++ hint_members device))

-- what is printed of a line that doesn't hold, as text: these lines for each property that is given instead, or once if there is none
abbrev pub failure_texts : (path device : List ℕ) → Line → List GivenValue → List ℕ
failure_texts path device l instead =
    if is_none instead then failure_text path device l None
    else flat_map (λ g. failure_text path device l (Some g)) instead

-- the same, as text or as one line of JSON
abbrev pub failures : (json : Bool) → (path device : List ℕ) → Line → List GivenValue → List ℕ
failures true path device l instead = json_line (failure_json path device l instead)
failures false path device l instead = failure_texts path device l instead

-- the properties that a line is about
abbrev pub about : (all : List Line) (found : List GivenValue) → Line → List GivenValue
about all found l = filter (λ g. is_about all l g.key) found

-- what is printed of a line and a device: nothing if it holds
abbrev pub line_text : (json : Bool) → (path device : List ℕ) (all : List Line) (answers : List Assignment) → Line → List ℕ
line_text json path device all answers l =
    if holds all (effective_of answers) l then [] else failures json path device l (about all (counting answers) l)

-- what is printed of a device of a record
abbrev pub device_text : (json : Bool) → (path : List ℕ) (all : List Line) → Tree → (device : List ℕ) → List ℕ
device_text json path all t device = flat_map (line_text json path device all (answers device t)) all

-- what is printed of a record, by device
abbrev pub record_text : (json : Bool) → (path : List ℕ) → Tree → Record → List ℕ
record_text json path t r = flat_map (device_text json path r.lines t) r.devices

-- what is printed of malformed lines of a file, as `check` prints them
abbrev pub malformed_text : (json : Bool) → Source → List Fault → List ℕ
malformed_text json s wrong = flat_map (λ f. told_fault (format_if json) s.name (text_of_line (lines s.bytes) f.line) f) wrong

-- what is printed of a test file: its malformed lines; if it has none, what is printed of its records
abbrev pub file_text : (json : Bool) → Tree → Source → List ℕ
file_text json t s =
    if is_none (malformed s.bytes) then flat_map (record_text json s.name t) (records s.bytes)
    else malformed_text json s (malformed s.bytes)

-- ---- what holds, and the status

-- for each line of a record, whether it holds of a device
abbrev pub device_held : (all : List Line) → Tree → (device : List ℕ) → List Bool
device_held all t device = map (holds all (effective_of (answers device t))) all

-- the same for each device of a record
abbrev pub record_held : Tree → Record → List Bool
record_held t r = flat_map (device_held r.lines t) r.devices

-- for each line of a test file, and each device of its record, whether that holds; of a malformed file each malformed line fails
abbrev pub file_held : Tree → Source → List Bool
file_held t s =
    if is_none (malformed s.bytes) then flat_map (record_held t) (records s.bytes)
    else map (λ f. false) (malformed s.bytes)

-- the same of some test files
abbrev pub held : Tree → List Source → List Bool
held t files = flat_map (file_held t) files

-- how many fail
abbrev pub failed : List Bool → ℕ
failed held = length (filter not held)

-- the last line: how many lines are wanted, and how many of them fail; there is none after lines of JSON
abbrev pub end_text : (json : Bool) → List Bool → List ℕ
end_text true held = []
end_text false held = count_text (length held) (codes "wanted line") ++ (codes ", " ++ (decimal (failed held) ++ codes " failed\n"))

-- what `test` prints of some test files, and at the end how many lines fail
abbrev pub test_text : (json : Bool) → List Source → Tree → List ℕ
test_text json files t = flat_map (file_text json t) files ++ end_text json (held t files)

-- 0 if each wanted line holds, else 1
abbrev pub test_status : List Source → Tree → ℕ
test_status files t = if failed (held t files) == 0 then 0 else 1
