-- What answering the devices of standard input prints, and when each of its errors comes. Our choice.
use Rattle.std.specs.Prelude.{ℕ, List, true, false}
use Rattle.hwdb_spec.specs.Folders.{Source}
use Rattle.hwdb_spec_commands.specs.Json.{last_values_json, query_json}
use Rattle.hwdb_spec_commands.specs.ManyDevices.{explained_lines_json, explained_texts, explains_json, explains_text}
use Rattle.hwdb_spec.specs.Texts.{last_values_texts, queries_text}
use Rattle.hwdb_spec.specs.Tree.{Tree}
use Rattle.hwdb_spec_commands.specs.Databases.{IsNoDatabase}
use Rattle.hwdb_spec.specs.declared.errors.ToolError.{ToolError}
use Rattle.hwdb_spec.specs.declared.errors.ToolError.TheVariants.{BadDatabase, Memory, Read, TooLong, TooManyLines, Write}
use Rattle.hwdb_spec_commands.specs.declared.form.Form.{Form}
use Rattle.hwdb_spec_commands.specs.declared.form.Form.TheVariants.{Explain, Query}

-- what is printed of some devices
abbrev pub texts_of : Form → List (List ℕ) → Tree → List ℕ
texts_of (Query false) = queries_text
texts_of (Query true) = query_json
texts_of (Explain false) = explains_text
texts_of (Explain true) = explains_json

-- the same, of what the files assign
abbrev pub last_texts_of : Form → List (List ℕ) → (etc usr : List Source) → List ℕ
last_texts_of (Query false) = last_values_texts
last_texts_of (Query true) = last_values_json
last_texts_of (Explain false) = explained_texts
last_texts_of (Explain true) = explained_lines_json

-- the errors of answering the devices of a text, if there is a database
abbrev pub IsAnswerRefusal : ToolError → Type 0
IsAnswerRefusal Read = Unit {0}
IsAnswerRefusal Write = Unit {0}
IsAnswerRefusal TooLong = Unit {0}
IsAnswerRefusal TooManyLines = Unit {0}
IsAnswerRefusal Memory = Unit {0}
IsAnswerRefusal _ = ⊥

-- when each error comes
abbrev pub IsStreamRefusal : (bytes : List ℕ) → ToolError → Type 0
IsStreamRefusal bytes (BadDatabase fault) = IsNoDatabase bytes fault
IsStreamRefusal bytes Read = Unit {0}
IsStreamRefusal bytes Write = Unit {0}
IsStreamRefusal bytes TooLong = Unit {0}
IsStreamRefusal bytes TooManyLines = Unit {0}
IsStreamRefusal bytes Memory = Unit {0}
IsStreamRefusal bytes _ = ⊥

-- what is so if bytes are no database
abbrev pub IfBadDatabase : Type 0 → ToolError → Type 0
IfBadDatabase P (BadDatabase fault) = P
IfBadDatabase P _ = Unit {0}
