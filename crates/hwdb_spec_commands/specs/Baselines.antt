-- Findings that are let pass since a baseline has them: a file with what `check --json` printed once. Each passes as often as it was there,
-- and a line may have moved since. Our choice.
use Rattle.std.specs.Prelude.{Bool, true, false, ℕ, List, Option, None, Some, Result, Ok, Err, [], ◌∷◌, ◌++◌, ◌+◌, if◌then◌else◌, codes, option_and_then, option_map}
use Rattle.std.specs.List.{list_any}
use Rattle.std.specs.Str.{is_utf8}
use Rattle.json.specs.Find.{get}
use Rattle.json.specs.Json.{Json, array, document, string}
use Rattle.hwdb_spec.specs.Folders.{same}
use Rattle.hwdb_spec.specs.Lines.{byte, is, is_none, pieces}
use Rattle.hwdb_spec.specs.Texts.{place_text}
use Rattle.hwdb_spec_commands.specs.Findings.{Finding}
use Rattle.hwdb_spec_commands.specs.Json.{json_text, object_of, text_json}

-- ---- What is compared

-- the path, the kind and the line of a finding, as one text
abbrev pub mark_text : (path kind source : Json) → List ℕ
mark_text path kind source = json_text (object_of ((codes "path", path) ∷ (codes "kind", kind) ∷ (codes "source", source) ∷ []))

-- those of a finding
abbrev pub mark_of : Finding → List ℕ
mark_of f = mark_text (text_json f.path) (text_json f.kind) (text_json f.source)

-- ---- What a baseline has

-- whether a value is a text, as `check --json` prints one: a string, or an array with its bytes
abbrev pub is_text : Json → Bool
is_text (string text) = true
is_text (array bytes) = true
is_text value = false

-- a value, if it is a text
abbrev pub if_text : Json → Option Json
if_text value = if is_text value then Some value else None

-- the text under a name of an object, if it has one
abbrev pub text_under : (name : List ℕ) → Json → Option Json
text_under name value = option_and_then if_text (get name value)

-- the same three of an object, if it has them
abbrev pub mark_with : (path kind source : Option Json) → Option (List ℕ)
mark_with (Some path) (Some kind) (Some source) = Some (mark_text path kind source)
mark_with path kind source = None

-- that of a finding, as `check --json` prints it
abbrev pub mark_in : Json → Option (List ℕ)
mark_in value = mark_with (text_under (codes "path") value) (text_under (codes "kind") value) (text_under (codes "source") value)

-- those of a line of a baseline
abbrev pub line_mark : (text : List ℕ) → Option (List ℕ)
line_mark text = if is_utf8 text then option_and_then mark_in (document text) else None

-- what a line has, before what the lines after it have
abbrev pub first_mark : (number : ℕ) → (mark : Option (List ℕ)) → Result (List (List ℕ)) ℕ → Result (List (List ℕ)) ℕ
first_mark number None rest = Err number
first_mark number (Some mark) (Ok marks) = Ok (mark ∷ marks)
first_mark number (Some mark) (Err wrong) = Err wrong

-- what a baseline has line by line, and empty lines are none; or the number of the first line that has no finding
unfoldable pub marks_from : (number : ℕ) → (texts : List (List ℕ)) → Result (List (List ℕ)) ℕ
marks_from number [] = Ok []
marks_from number (text ∷ more) =
    if is_none text then marks_from (number + 1) more else first_mark number (line_mark text) (marks_from (number + 1) more)

-- those of the lines of a file, or the number of the first line that is no finding
abbrev pub marks_in : (file : List ℕ) → Result (List (List ℕ)) ℕ
marks_in file = marks_from 1 (pieces (is (byte "\n")) file)

-- what an error says of a line that has none
abbrev pub wrong_text : (path : List ℕ) (number : ℕ) → List ℕ
wrong_text path number = place_text path number ++ codes ": no finding as hwdb check --json prints it"

-- ---- What passes

-- texts without the first one that is this
unfoldable pub without_first : (mark : List ℕ) → List (List ℕ) → List (List ℕ)
without_first mark [] = []
without_first mark (m ∷ more) = if same mark m then more else m ∷ without_first mark more

-- The findings that no baseline has: each passes that is among what is left of it, and uses that up. So of equal ones the first pass.
unfoldable pub new_findings : (known : List (List ℕ)) → List Finding → List Finding
new_findings known [] = []
new_findings known (f ∷ more) =
    if list_any (same (mark_of f)) known then new_findings (without_first (mark_of f) known) more else f ∷ new_findings known more
