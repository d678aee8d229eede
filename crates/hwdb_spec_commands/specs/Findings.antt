-- What `check` prints of the faults and warnings of one file: of each a report, a line of JSON, a workflow command of GitHub, or a result in
-- SARIF. Our choice.
use Rattle.std.specs.Prelude.{Bool, true, false, ℕ, List, Option, None, Some, [], ◌∷◌, ◌++◌, ◌+◌, ◌-◌, ◌^◌, if◌then◌else◌, codes, filter, flat_map, length, nat_lt}
use Rattle.std.specs.Fmt.{decimal}
use Rattle.json.specs.Json.{Json}
use Rattle.hwdb_spec_commands.specs.Annotations.{annotation}
use Rattle.hwdb_spec_commands.specs.Fixes.{fix}
use Rattle.hwdb_spec_commands.specs.Json.{json_line, number_json, object_of, text_json}
use Rattle.hwdb_spec_commands.specs.Kinds.{fault_name, warning_name}
use Rattle.hwdb_spec_commands.specs.Logs.{result_line}
use Rattle.hwdb_spec.specs.Lines.{Line, byte, clean_line, is, lines}
use Rattle.hwdb_spec.specs.Records.{fault_text, faults}
use Rattle.hwdb_spec.specs.Texts.{place_text}
use Rattle.hwdb_spec.specs.Visible.{shown_name}
use Rattle.hwdb_spec_commands.specs.Reports.{fault_hint, fault_place, hint_line, mark_line, shown_line}
use Rattle.hwdb_spec_commands.specs.Warnings.{line_warnings, warning_hint, warning_place, warning_text}
use Rattle.hwdb_spec.specs.declared.Fault.{Fault}
use Rattle.hwdb_spec_commands.specs.declared.WarningKind.{WarningKind}
use Rattle.hwdb_spec_commands.specs.declared.formats.Format.{Format}
use Rattle.hwdb_spec_commands.specs.declared.formats.Format.TheVariants.{Github, Json as JsonLines, Patch, Sarif, Text as Reports}

-- what is found in a line of a file
pub record Finding : Type 0 where
  -- the path that is printed for the file
  pub path : List ℕ
  -- the line, from 1
  pub line : ℕ
  -- how many bytes of the line come before its place
  pub place : ℕ
  -- a fault, or else a warning
  pub fault : Bool
  pub kind : List ℕ
  pub text : List ℕ
  -- what to do about it
  pub hint : List ℕ
  -- the line itself
  pub source : List ℕ
  -- the line as it was likely meant, if that is sure
  pub fix : Option (List ℕ)

-- the column after so many bytes of a line, from 1; it stops at the greatest number of 64 bits
abbrev pub column : ℕ → ℕ
column at = if nat_lt (at + 1) (2 ^ 64) then at + 1 else 2 ^ 64 - 1

-- a fault is an error
abbrev pub severity_name : (fault : Bool) → List ℕ
severity_name true = codes "error"
severity_name false = codes "warning"

-- ---- in each format

-- what is found, and what to do about it
abbrev pub message : Finding → List ℕ
message f = f.text ++ (codes "; " ++ f.hint)

-- The line of a finding as compilers write it, so that editors find its place (GNU Coding Standards, 'Formatting Error Messages'): where
-- it is, `error` or `warning`, what is found, and its kind.
abbrev pub finding_line : Finding → List ℕ
finding_line f =
    place_text f.path f.line ++ (byte ":" ∷ (decimal (column f.place) ++ (codes ": " ++ (severity_name f.fault ++ (codes ": "
    ++ (f.text ++ (codes " [" ++ (f.kind ++ codes "]\n"))))))))

-- that line, the line of the file, the mark below its place, and what to do
abbrev pub report : Finding → List ℕ
report f = finding_line f ++ (shown_line f.source f.place ++ (mark_line f.source f.place ++ hint_line f.hint))

-- the line as it was likely meant, as a member, if that is sure
abbrev pub fix_members : Option (List ℕ) → List (List ℕ × Json)
fix_members None = []
fix_members (Some line) = (codes "fix", text_json line) ∷ []

-- What is found, as an object. The column is that of the mark, and the source is the line itself.
abbrev pub finding_json : Finding → Json
finding_json f =
    object_of ((codes "path", text_json f.path) ∷ (codes "line", number_json f.line) ∷ (codes "column", number_json (column f.place))
    ∷ (codes "kind", text_json f.kind) ∷ (codes "text", text_json f.text) ∷ (codes "hint", text_json f.hint)
    ∷ (codes "severity", text_json (severity_name f.fault)) ∷ (codes "source", text_json f.source) ∷ fix_members f.fix)

-- what is printed of a finding; a patch tells of none
abbrev pub told : Format → Finding → List ℕ
told Reports f = report f
told JsonLines f = json_line (finding_json f)
told Github f = annotation (severity_name f.fault) (shown_name f.path) f.line (column f.place) f.kind (message f)
told Sarif f = result_line (severity_name f.fault) f.path f.line (column f.place) f.kind (message f) (column (length f.source)) f.fix
told Patch f = []

-- ---- faults and warnings

-- a fault of a line with this text
abbrev pub fault_found : (path text : List ℕ) → Fault → Finding
fault_found path text f = record {
  path = path;
  line = f.line;
  place = fault_place f.kind text;
  fault = true;
  kind = fault_name f.kind;
  text = fault_text f.kind;
  hint = fault_hint f.kind;
  source = text;
  fix = None;
}

-- the line as it was likely meant, if that is sure, in a format that has it
abbrev pub fix_for : Format → WarningKind → (clean : Line) (source : List ℕ) → Option (List ℕ)
fix_for JsonLines kind clean source = fix kind clean source
fix_for Sarif kind clean source = fix kind clean source
fix_for format kind clean source = None

-- a warning of a line
abbrev pub warning_found : Format → (path : List ℕ) → Line → WarningKind → Finding
warning_found format path l kind = record {
  path = path;
  line = l.number;
  place = warning_place kind l.text (clean_line l).text;
  fault = false;
  kind = warning_name kind;
  text = warning_text kind;
  hint = warning_hint kind (clean_line l);
  source = l.text;
  fix = fix_for format kind (clean_line l) l.text;
}

-- lines of JSON, or reports
abbrev pub format_if : (json : Bool) → Format
format_if true = JsonLines
format_if false = Reports

-- what is printed of a fault
unfoldable pub told_fault : Format → (path text : List ℕ) → Fault → List ℕ
told_fault format path text f = told format (fault_found path text f)

-- what is printed of a warning
unfoldable pub told_warning : Format → (path : List ℕ) → Line → WarningKind → List ℕ
told_warning format path l kind = told format (warning_found format path l kind)

-- ---- findings of a file

-- one fault of a line with this text
unfoldable pub one_fault : (path text : List ℕ) → Fault → List Finding
one_fault path text f = fault_found path text f ∷ []

-- one warning of a line
unfoldable pub one_warning : Format → (path : List ℕ) → Line → WarningKind → List Finding
one_warning format path l kind = warning_found format path l kind ∷ []

-- the faults of the line of a file with this number, in their order
abbrev pub faults_at : (file : List ℕ) (number : ℕ) → List Fault
faults_at file number = filter (λ f. is number f.line) (faults file)

-- the findings of the faults of a line of a file
abbrev pub found_faults : (path file : List ℕ) → Line → List Finding
found_faults path file l = flat_map (one_fault path l.text) (faults_at file l.number)

-- what is printed of the faults of a line of a file
abbrev pub line_faults_text : Format → (path file : List ℕ) → Line → List ℕ
line_faults_text format path file l = flat_map (told format) (found_faults path file l)

-- the findings of the warnings of a line of a file, of a kind that isn't allowed
abbrev pub found_warnings : Format → (allowed : List (List ℕ)) → (path file : List ℕ) → Line → List Finding
found_warnings format allowed path file l = flat_map (one_warning format path l) (line_warnings allowed file l)

-- the findings of a line of a file: its faults, and then its warnings
abbrev pub line_findings : Format → (allowed : List (List ℕ)) → (path file : List ℕ) → Line → List Finding
line_findings format allowed path file l = found_faults path file l ++ found_warnings format allowed path file l

-- the findings of a file whose comments let nothing pass, line by line
abbrev pub bare_findings : Format → (allowed : List (List ℕ)) → (path file : List ℕ) → List Finding
bare_findings format allowed path file = flat_map (line_findings format allowed path file) (lines file)
