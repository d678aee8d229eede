-- A finding as GitHub shows it beside its line: its workflow commands (docs.github.com, 'Workflow commands for GitHub Actions', and
-- actions/toolkit, command.ts, for the escapes).
use Rattle.std.specs.Prelude.{ℕ, List, [], ◌∷◌, ◌++◌, ◌==◌, if◌then◌else◌, codes, flat_map}
use Rattle.std.specs.Fmt.{decimal}
use Rattle.hwdb_spec.specs.Lines.{byte}

-- a byte of a message: `%` and what ends a line are escaped
abbrev pub message_byte : ℕ → List ℕ
message_byte b =
    if b == byte "%" then codes "%25" else (if b == byte "\r" then codes "%0D" else (if b == byte "\n" then codes "%0A" else b ∷ []))

-- a byte of a property, as of the file: what ends a property or begins its value is escaped, too
abbrev pub property_byte : ℕ → List ℕ
property_byte b = if b == byte ":" then codes "%3A" else (if b == byte "," then codes "%2C" else message_byte b)

-- where a finding is, and its kind
abbrev pub place_part : (path : List ℕ) (line column : ℕ) (kind : List ℕ) → List ℕ
place_part path line column kind =
    codes " file=" ++ (flat_map property_byte path ++ (codes ",line=" ++ (decimal line ++ (codes ",col=" ++ (decimal column
    ++ (codes ",title=" ++ flat_map property_byte kind))))))

-- what is found, to the end of the line
abbrev pub message_part : (text : List ℕ) → List ℕ
message_part text = codes "::" ++ (flat_map message_byte text ++ byte "\n" ∷ [])

-- the line of a finding: `error` or `warning`, where it is, and what is found
abbrev pub annotation : (severity path : List ℕ) (line column : ℕ) (kind text : List ℕ) → List ℕ
annotation severity path line column kind text = codes "::" ++ (severity ++ (place_part path line column kind ++ message_part text))
