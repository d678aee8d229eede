-- Worked rows of what `check` says: which warnings `--allow` leaves out, where properties are read (the heads of 60-keyboard.hwdb,
-- 70-mouse.hwdb and 60-sensor.hwdb of systemd), which lines are repeated or replaced, where a warning is, and what is printed.
use Rattle.std.specs.Prelude.{◌++◌, ◌∷◌, ◌≡◌, Bool, List, None, Option, Some, [], codes, false, flat_map, map, true, ℕ}
use Rattle.hwdb_spec.specs.Assignment.{Assignment}
use Rattle.hwdb_spec_commands.specs.Checks.{check_status, empty_tally, ended, format_of, tally_line, tally_of_both}
use Rattle.hwdb_spec_commands.specs.Findings.{line_faults_text, told_warning}
use Rattle.hwdb_spec_commands.specs.AllowedKinds.{file_text}
use Rattle.hwdb_spec_commands.specs.Fixes.{fix}
use Rattle.hwdb_spec_commands.specs.Kinds.{is_told}
use Rattle.hwdb_spec.specs.Lines.{Line, clean_line, lines}
use Rattle.hwdb_spec_commands.specs.Surroundings.{is_elsewhere, is_unpaired, is_unread, unpaired_hint, unread_hint}
use Rattle.hwdb_spec_commands.specs.Warnings.{repeated_lines, replacing, warns}
use Rattle.hwdb_spec_commands.specs.declared.Tally.{Tally}
use Rattle.hwdb_spec_commands.specs.declared.WarningKind.{WarningKind}
use Rattle.hwdb_spec_commands.specs.declared.WarningKind.TheVariants.{CarriageReturn, CutValue, EmptyRange, LeadingTab, Misused, OpenBracket, Replaced, SpacedEquals, Unpaired, Unread}
use Rattle.hwdb_spec_commands.specs.declared.formats.Format.TheVariants.{Github, Json as JsonLines, Sarif, Text as Reports}
use Rattle.hwdb_spec_commands.specs.declared.vocabulary.Misuse.TheVariants.{NearName, ScanCode, UnfitValue, UnknownKey}

-- ---- kinds that are allowed

-- a kind that is allowed isn't told, and each other one is
abbrev pub ToldRows : Type 0
ToldRows =
    map (is_told (codes "unread" ∷ codes "near-name" ∷ [])) (Unread true ∷ Unread false ∷ Unpaired ∷ Misused NearName ∷ Misused UnknownKey ∷ CutValue ∷ [])
    ++ map (is_told []) (Unread true ∷ Misused NearName ∷ [])
    ≡ false ∷ true ∷ true ∷ false ∷ true ∷ true ∷ true ∷ true ∷ []

-- ---- where properties are read

-- an assignment of a pattern
abbrev pub given : (pattern key : List ℕ) → Assignment
given pattern key = record { position = record { priority = 1; line = 2; pattern = pattern; key = key }; value = codes "x"; path = [] }

-- Keys of a keyboard are read below `evdev:` alone. A mouse's resolution is read below `mouse:` and `evdev:`. A prefix that udev doesn't
-- ask and a wildcard in the prefix tell nothing. A name that isn't known is read nowhere below `mouse:`, and perhaps below `usb:`. What
-- Linux logs as e0 37 has the code b7 at the driver atkbd, and dell-wmi has codes of its own. No rule asks for a name with braces. What
-- 60-autosuspend.rules reads is there before 70-mouse.rules asks.
abbrev pub ElsewhereRows : Type 0
ElsewhereRows =
    map is_elsewhere
    (given (codes "evdev:input:b0003*") (codes "KEYBOARD_KEY_70039")
    ∷ given (codes "mouse:usb:*") (codes "KEYBOARD_KEY_70039")
    ∷ given (codes "mouse:usb:*") (codes "MOUSE_DPI")
    ∷ given (codes "evdev:input:*") (codes "MOUSE_DPI")
    ∷ given (codes "sensor:modalias:*") (codes "MOUSE_DPI")
    ∷ given (codes "workshop:*") (codes "KEYBOARD_KEY_70039")
    ∷ given (codes "mous?:*") (codes "KEYBOARD_KEY_70039")
    ∷ given (codes "mouse:usb:*") (codes "WORKSHOP_LIGHT")
    ∷ given (codes "usb:v1209*") (codes "WORKSHOP_LIGHT")
    ∷ given (codes "evdev:atkbd:dmi:*") (codes "KEYBOARD_KEY_e037")
    ∷ given (codes "evdev:atkbd:dmi:*") (codes "KEYBOARD_KEY_b7")
    ∷ given (codes "evdev:name:Dell WMI hotkeys:dmi:*") (codes "KEYBOARD_KEY_e037")
    ∷ given (codes "usb:v1209*") (codes "ENV{WORKSHOP_LIGHT}")
    ∷ given (codes "mouse:usb:*") (codes "ID_AUTOSUSPEND")
    ∷ given (codes "usb:v1209*") (codes "ID_AUTOSUSPEND")
    ∷ [])
    ≡ false ∷ true ∷ false ∷ false ∷ true ∷ false ∷ false ∷ true ∷ false ∷ true ∷ false ∷ false ∷ true ∷ true ∷ false ∷ []

-- A property is unread if it is so with each pattern of its record, and a match line never is.
abbrev pub UnreadRows : Type 0
UnreadRows =
    map (is_unread (codes "mouse:usb:*\nevdev:input:*\n KEYBOARD_KEY_70039=a\n\nmouse:usb:*\nsensor:*\n KEYBOARD_KEY_70039=a\n")) (1 ∷ 3 ∷ 5 ∷ 7 ∷ [])
    ≡ false ∷ false ∷ false ∷ true ∷ []

-- A wheel's count is read with its angle alone, which another record may give the same pattern.
abbrev pub UnpairedRows : Type 0
UnpairedRows =
    map (λ file. is_unpaired file 2)
    (codes "mouse:usb:*\n MOUSE_WHEEL_CLICK_COUNT=24\n"
    ∷ codes "mouse:usb:*\n MOUSE_WHEEL_CLICK_COUNT=24\n MOUSE_WHEEL_CLICK_ANGLE=15\n"
    ∷ codes "mouse:usb:*\n MOUSE_WHEEL_CLICK_COUNT=24\n\nmouse:usb:*\n MOUSE_WHEEL_CLICK_ANGLE=15\n"
    ∷ codes "mouse:usb:*\n MOUSE_WHEEL_CLICK_COUNT=24\n\nmouse:bluetooth:*\n MOUSE_WHEEL_CLICK_ANGLE=15\n"
    ∷ codes "mouse:usb:*\n MOUSE_WHEEL_CLICK_ANGLE=15\n"
    ∷ [])
    ≡ true ∷ false ∷ false ∷ true ∷ false ∷ []

-- where a property is read, and what it is read with
abbrev pub HintRows : Type 0
HintRows =
    (unread_hint true (codes "KEYBOARD_KEY_70039") ≡ codes "it is read below these prefixes: evdev")
    × (unread_hint true (codes "KEYBOARD_KEY_e037") ≡ codes "Linux logs e0 before a code: below evdev:atkbd: write KEYBOARD_KEY_b7")
    × (unread_hint false (codes "ENV{WORKSHOP_LIGHT}") ≡ codes "write the name alone, in letters, digits and _")
    × (unread_hint false (codes "MOUSE_WHEEL_ANGLE") ≡ codes "did you mean MOUSE_WHEEL_CLICK_ANGLE?")
    × (unpaired_hint (codes "MOUSE_WHEEL_CLICK_COUNT") ≡ codes "give its record these too: MOUSE_WHEEL_CLICK_ANGLE")

-- ---- lines that are repeated or replaced

-- A match line repeats one of its own record alone: not of a record before, nor after a property.
abbrev pub RepeatedRows : Type 0
RepeatedRows =
    map repeated_lines (codes "a\nb\na\n A=1\n" ∷ codes "a\n A=1\n\na\n A=1\n" ∷ codes "a\na\na\n A=1\n" ∷ codes "a\n# c\na # c\n A=1\n" ∷ [])
    ≡ (3 ∷ []) ∷ [] ∷ (2 ∷ 3 ∷ []) ∷ (3 ∷ []) ∷ []

-- An assignment is replaced by a later one of its pattern and key, unless that gives the same value.
abbrev pub ReplacedRows : Type 0
ReplacedRows =
    map (replacing (codes "a\n A=1\n B=1\n\na\n A=2\n B=1\n\nb\n A=3\n")) (2 ∷ 3 ∷ 6 ∷ 9 ∷ [])
    ≡ (6 ∷ []) ∷ [] ∷ [] ∷ [] ∷ []

-- ---- each warning of one line

-- whether the lines of a file get a warning
abbrev pub warned : WarningKind → (file : List ℕ) → List Bool
warned kind file = map (λ l. warns file kind l (clean_line l)) (lines file)

-- A tab before a match line; a bracket that is open, in a match line alone; a range whose ends are exchanged; a blank on either side of
-- the `=`; a `#` right after a value; and a carriage return that isn't at the end.
abbrev pub WarnedRows : Type 0
WarnedRows =
    (warned LeadingTab (codes "a\n\tA=1\n B=1\n") ≡ false ∷ true ∷ false ∷ [])
    × (warned OpenBracket (codes "a[b\na[b]\n A=[\n") ≡ true ∷ false ∷ false ∷ [])
    × (warned EmptyRange (codes "a[b-a]\na[a-b]\n A=[b-a]\n") ≡ true ∷ false ∷ false ∷ [])
    × (warned SpacedEquals (codes "a =b\n A =1\n B= 1\n C=1 \n") ≡ false ∷ true ∷ true ∷ false ∷ [])
    × (warned CutValue (codes "a#b\n A=1#c\n B=1 # c\n# D=1#\n") ≡ false ∷ true ∷ false ∷ false ∷ [])
    × (warned CarriageReturn (codes "a\rb\na\r\n A=\r1\n") ≡ true ∷ false ∷ true ∷ [])

-- ---- what is printed

-- a line at number 3
abbrev pub at_three : List ℕ → Line
at_three text = record { number = 3; text = text }

-- Each report has its place: of a replaced assignment after the blanks, of a carriage return and of a `#` at that byte, of a bracket at
-- that bracket.
abbrev pub ReportRows : Type 0
ReportRows =
    told_warning Reports (codes "f") (at_three (codes "  A=1")) (Replaced 7)
    ∷ told_warning Reports (codes "f") (at_three (codes " A=1#c")) CutValue
    ∷ told_warning Reports (codes "f") (at_three (codes "ab[c")) OpenBracket
    ∷ told_warning Reports (codes "f") (at_three (codes " A =1")) SpacedEquals
    ∷ told_warning Reports (codes "f") (at_three (codes "\ta")) LeadingTab
    ∷ []
    ≡ codes "f:3:3: warning: an assignment that line 7 replaces [replaced]\n      A=1\n      ^\n    hint: take one of the two away\n"
    ∷ codes "f:3:5: warning: a # without a blank before it cuts the value [cut-value]\n     A=1#c\n        ^\n    hint: put a blank before a comment; a value can't hold a #\n"
    ∷ codes "f:3:3: warning: a [ that is never closed stands for itself [open-bracket]\n    ab[c\n      ^\n    hint: close it with a ], or write [[] for the byte\n"
    ∷ codes "f:3:4: warning: a blank beside the first = [spaced-equals]\n     A =1\n       ^\n    hint: write A=1\n"
    ∷ codes "f:3:1: warning: a match line that begins with a tab [leading-tab]\n    \\x09a\n    ^\n    hint: begin a property with a space\n"
    ∷ []

-- As JSON the column counts from 1.
abbrev pub JsonRows : Type 0
JsonRows =
    told_warning JsonLines (codes "f") (at_three (codes " A=1#c")) CutValue
    ≡ codes "{\"path\":\"f\",\"line\":3,\"column\":5,\"kind\":\"cut-value\",\"text\":\"a # without a blank before it cuts the value\",\"hint\":\"put a blank before a comment; a value can't hold a #\",\"severity\":\"warning\",\"source\":\" A=1#c\"}\n"

-- A line that was surely meant otherwise is there, too.
abbrev pub FixedRows : Type 0
FixedRows =
    told_warning JsonLines (codes "f") (at_three (codes " A =1 # c")) SpacedEquals
    ≡ codes "{\"path\":\"f\",\"line\":3,\"column\":4,\"kind\":\"spaced-equals\",\"text\":\"a blank beside the first =\",\"hint\":\"write A=1\",\"severity\":\"warning\",\"source\":\" A =1 # c\",\"fix\":\" A=1 # c\"}\n"

-- the line as it was meant, of a warning of this kind
abbrev pub fix_of : WarningKind → (text : List ℕ) → Option (List ℕ)
fix_of kind text = fix kind (clean_line (at_three text)) text

-- Blanks beside the `=` go, and the indent and a comment stay. A code is in lower case and without 0x, and one that evtest shows in decimal is
-- in hexadecimal. A code with other digits isn't sure. A key loses its quotes, `KEY_` and its capitals, and keeps a `!`; one that is
-- only nearly known isn't sure. A value is written as people mean it. Of other warnings nothing is sure.
abbrev pub FixRows : Type 0
FixRows =
    map (fix_of SpacedEquals) (codes " A = 1 # c" ∷ codes " \tB\t=\r" ∷ [])
    ++ map (fix_of (Misused ScanCode))
    (codes "  KEYBOARD_KEY_7003A=a\r" ∷ codes " KEYBOARD_KEY_0x3a=a" ∷ codes " EVDEV_ABS_53=1:2" ∷ codes " KEYBOARD_KEY_=a" ∷ codes " KEYBOARD_KEY_x=a" ∷ [])
    ++ map (fix_of (Misused UnknownKey))
    (codes " KEYBOARD_KEY_7=\"KEY_ESC\" # c" ∷ codes " KEYBOARD_KEY_7=!'Esc'" ∷ codes " KEYBOARD_KEY_7=leftctr" ∷ [])
    ++ map (fix_of (Misused UnfitValue)) (codes " ID_INPUT_MOUSE=yes" ∷ codes " ID_INPUT_MOUSE=perhaps" ∷ [])
    ++ (fix_of (Misused NearName) (codes " ID_INPUT_MOUS=1") ∷ fix_of CutValue (codes " A=1#c") ∷ [])
    ≡ Some (codes " A=1 # c") ∷ Some (codes " \tB=\r")
    ∷ Some (codes "  KEYBOARD_KEY_7003a=a\r") ∷ Some (codes " KEYBOARD_KEY_3a=a") ∷ Some (codes " EVDEV_ABS_35=1:2") ∷ None ∷ None
    ∷ Some (codes " KEYBOARD_KEY_7=esc # c") ∷ Some (codes " KEYBOARD_KEY_7=!esc") ∷ None
    ∷ Some (codes " ID_INPUT_MOUSE=1") ∷ None
    ∷ None ∷ None ∷ []

-- Findings come by line. Of one line its fault comes first, then the name in its comment, and then its warning.
abbrev pub OrderRows : Type 0
OrderRows =
    file_text Github [] (codes "f") (codes "#hwdb:allow x\n B=1#hwdb:allow y\n")
    ≡ codes "::warning file=f,line=1,col=1,title=unknown-kind::no kind of warning that a comment may allow: x; hwdb-format(7) has all kinds; a fault can't be allowed\n"
    ++ codes "::error file=f,line=2,col=2,title=stray-property::property where a match is expected, ignored; put a match line above it, with no empty line between them\n"
    ++ codes "::warning file=f,line=2,col=5,title=unknown-kind::no kind of warning that a comment may allow: y; hwdb-format(7) has all kinds; a fault can't be allowed\n"
    ++ codes "::warning file=f,line=2,col=5,title=cut-value::a # without a blank before it cuts the value; put a blank before a comment; a value can't hold a #\n"

-- GitHub's escapes: a comma and a colon of a path, a percent sign of a text; as an error and as a warning (command.ts).
abbrev pub GithubRows : Type 0
GithubRows =
    flat_map (line_faults_text Github (codes "a,b:c%.hwdb") (codes " A=1\n")) (lines (codes " A=1\n"))
    ++ told_warning Github (codes "f") (at_three (codes " A=1#c")) CutValue
    ≡ codes "::error file=a%2Cb%3Ac%25.hwdb,line=1,col=2,title=stray-property::property where a match is expected, ignored; put a match line above it, with no empty line between them\n"
    ++ codes "::warning file=f,line=3,col=5,title=cut-value::a # without a blank before it cuts the value; put a blank before a comment; a value can't hold a #\n"

-- A log has no comma before its first result, and one before each other; what a URI can't hold of a path has its escape (RFC 3986, 2.1).
abbrev pub SarifRows : Type 0
SarifRows =
    (ended Sarif empty_tally [] ≡ codes "{\"$schema\":\"https://json.schemastore.org/sarif-2.1.0.json\",\"version\":\"2.1.0\",\"runs\":[{\"tool\":{\"driver\":{\"name\":\"hwdb\"}},\"results\":[\n]}]}\n")
    × (ended Sarif empty_tally (told_warning Sarif (codes "a b/50%") (at_three (codes " A=1#c")) CutValue ++ codes ",2\n")
    ≡ codes "{\"$schema\":\"https://json.schemastore.org/sarif-2.1.0.json\",\"version\":\"2.1.0\",\"runs\":[{\"tool\":{\"driver\":{\"name\":\"hwdb\"}},\"results\":[\n"
    ++ codes "{\"ruleId\":\"cut-value\",\"level\":\"warning\",\"message\":{\"text\":\"a # without a blank before it cuts the value; put a blank before a comment; a value can't hold a #\"},"
    ++ codes "\"locations\":[{\"physicalLocation\":{\"artifactLocation\":{\"uri\":\"a%20b/50%25\"},\"region\":{\"startLine\":3,\"startColumn\":5}}}]}\n,2\n]}]}\n")

-- `--json` comes before a word of `--format`, and a word that names none gives reports. Reports and annotations end with the count.
abbrev pub FormatRows : Type 0
FormatRows =
    (map (format_of false) (None ∷ Some (codes "text") ∷ Some (codes "json") ∷ Some (codes "github") ∷ Some (codes "sarif") ∷ Some (codes "xml") ∷ [])
    ≡ Reports ∷ Reports ∷ JsonLines ∷ Github ∷ Sarif ∷ Reports ∷ [])
    × (map (format_of true) (None ∷ Some (codes "sarif") ∷ []) ≡ JsonLines ∷ JsonLines ∷ [])
    × (map (λ format. ended format empty_tally (codes "a\n")) (Reports ∷ JsonLines ∷ Github ∷ [])
    ≡ codes "a\n0 files, 0 assignments, 0 faults, 0 warnings\n" ∷ codes "a\n" ∷ codes "a\n0 files, 0 assignments, 0 faults, 0 warnings\n" ∷ [])

-- Faults come by line, with the words that `update` has for them.
abbrev pub FaultRows : Type 0
FaultRows =
    flat_map (line_faults_text Reports (codes "f") (codes " A=1\nb\n")) (lines (codes " A=1\nb\n"))
    ≡ codes "f:1:2: error: property where a match is expected, ignored [stray-property]\n     A=1\n     ^\n    hint: put a match line above it, with no empty line between them\n"
    ++ codes "f:2:1: error: record without properties, ignored [no-property]\n    b\n    ^\n    hint: put a property below it, on a line that begins with a space, or take the match line away\n"

-- two files, of which the second has a fault
abbrev pub some_tally : Tally
some_tally = tally_of_both (record { files = 1; assignments = 2; faults = 0; warnings = 1 }) (record { files = 1; assignments = 0; faults = 1; warnings = 0 })

-- the last line counts, and the status is 1 for a fault, or with `--strict` for a warning
abbrev pub TallyRows : Type 0
TallyRows =
    (tally_line some_tally ≡ codes "2 files, 2 assignments, 1 fault, 1 warning\n")
    × (tally_line empty_tally ≡ codes "0 files, 0 assignments, 0 faults, 0 warnings\n")
    × (map (check_status false) (empty_tally ∷ record { files = 1; assignments = 2; faults = 0; warnings = 1 } ∷ some_tally ∷ []) ≡ 0 ∷ 0 ∷ 1 ∷ [])
    × (map (check_status true) (empty_tally ∷ record { files = 1; assignments = 2; faults = 0; warnings = 1 } ∷ some_tally ∷ []) ≡ 0 ∷ 1 ∷ 1 ∷ [])
