-- Findings as a log that tools of code review read: SARIF 2.1.0, of OASIS. Its names are those of sections 3.13 (the log), 3.14 (a run),
-- 3.27 (a result), 3.29 (a place), 3.30 (a region) and 3.55 to 3.57 (a fix). How it is laid out is our choice.
use Rattle.std.specs.Prelude.{Bool, ℕ, List, Option, None, Some, [], ◌∷◌, ◌++◌, ◌||◌, codes, drop, flat_map, if◌then◌else◌}
use Rattle.std.specs.Fmt.{decimal}
use Rattle.std.specs.Str.{is_utf8}
use Rattle.hex.specs.Hex.{encode_upper}
use Rattle.hwdb_spec.specs.Lines.{byte, has}
use Rattle.hwdb_spec.specs.Patterns.{in_span}
use Rattle.hwdb_spec_commands.specs.Json.{json_text, object_of, text_json}

-- whether a byte of a path stands for itself in a URI: a digit, a letter, one of four others, or a `/` (RFC 3986, 2.3 and 3.3)
abbrev pub is_plain : ℕ → Bool
is_plain b = in_span b (48, 57) || (in_span b (65, 90) || (in_span b (97, 122) || has b (codes "-._~/")))

-- a byte of a path in a URI: another one as `%` and its two hexadecimal digits (2.1)
abbrev pub uri_byte : ℕ → List ℕ
uri_byte b = if is_plain b then b ∷ [] else byte "%" ∷ encode_upper (b ∷ [])

-- the line of a finding, after the path
abbrev pub line_part : (line : ℕ) → List ℕ
line_part line = codes "\"},\"region\":{\"startLine\":" ++ decimal line

-- its column, which counts bytes, as compilers do
abbrev pub column_part : (column : ℕ) → List ℕ
column_part column = codes ",\"startColumn\":" ++ (decimal column ++ codes "}}}]")

-- where a finding is
abbrev pub place_member : (path : List ℕ) (line column : ℕ) → List ℕ
place_member path line column =
    codes "\"locations\":[{\"physicalLocation\":{\"artifactLocation\":{\"uri\":\"" ++ (flat_map uri_byte path ++ (line_part line ++ column_part column))

-- a text as an object
abbrev pub text_object : (text : List ℕ) → List ℕ
text_object text = json_text (object_of ((codes "text", text_json text) ∷ []))

-- what is found, and what to do about it
abbrev pub message_member : (text : List ℕ) → List ℕ
message_member text = codes "\"message\":" ++ text_object text

-- the line that a fix replaces, as a region from its first column to the one after its last byte
abbrev pub deleted_part : (line after : ℕ) → List ℕ
deleted_part line after =
    codes "\"},\"replacements\":[{\"deletedRegion\":{\"startLine\":" ++ (decimal line ++ (codes ",\"startColumn\":1,\"endColumn\":" ++ decimal after))

-- the line that comes in its place
abbrev pub inserted_part : (text : List ℕ) → List ℕ
inserted_part text = codes "},\"insertedContent\":" ++ (text_object text ++ codes "}]}]}]")

-- the file that a fix changes, after a comma
abbrev pub changed_part : (path : List ℕ) → List ℕ
changed_part path = codes ",\"fixes\":[{\"artifactChanges\":[{\"artifactLocation\":{\"uri\":\"" ++ flat_map uri_byte path

-- one fix, which changes one line of one file
abbrev pub fix_part : (path : List ℕ) (line after : ℕ) (text : List ℕ) → List ℕ
fix_part path line after text = changed_part path ++ (deleted_part line after ++ inserted_part text)

-- The line as it was likely meant, after a comma, if that is sure. A line that isn't UTF-8 has none: it is no text of a log.
abbrev pub fixes_member : (path : List ℕ) (line after : ℕ) (fix : Option (List ℕ)) → List ℕ
fixes_member path line after None = []
fixes_member path line after (Some text) = if is_utf8 text then fix_part path line after text else []

-- the kind of a finding, after a comma; kinds and severities are words that need no escape
abbrev pub kind_part : (kind : List ℕ) → List ℕ
kind_part kind = codes ",{\"ruleId\":\"" ++ kind

-- its severity
abbrev pub severity_part : (severity : List ℕ) → List ℕ
severity_part severity = codes "\",\"level\":\"" ++ (severity ++ codes "\",")

-- A result of the log, after a comma, on a line of its own. Its line of the file ends before the column `after`, and was likely meant
-- as `fix`.
abbrev pub result_line : (severity path : List ℕ) (line column : ℕ) (kind text : List ℕ) (after : ℕ) (fix : Option (List ℕ)) → List ℕ
result_line severity path line column kind text after fix =
    kind_part kind
    ++ (severity_part severity
    ++ (message_member text ++ (byte "," ∷ (place_member path line column ++ (fixes_member path line after fix ++ codes "}\n")))))

-- what the log begins with
abbrev pub log_head : List ℕ
log_head =
    codes "{\"$schema\":\"https://json.schemastore.org/sarif-2.1.0.json\",\"version\":\"2.1.0\",\"runs\":[{\"tool\":{\"driver\":{\"name\":\"hwdb\"}},\"results\":[\n"

-- what it ends with
abbrev pub log_end : List ℕ
log_end = codes "]}]}\n"

-- the log of results: there is no comma before the first of them
abbrev pub log_text : (results : List ℕ) → List ℕ
log_text results = log_head ++ (drop 1 results ++ log_end)
