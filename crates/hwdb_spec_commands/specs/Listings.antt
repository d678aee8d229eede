-- What `list` prints of a database, and when each of its errors comes. Our choice.
use Rattle.std.specs.Prelude.{ℕ, List, Bool, true, false, ◌≡◌, Option, Some, take, flat_map}
use Rattle.hwdb_spec_commands.specs.Asked.{IsFrom}
use Rattle.hwdb_spec.specs.Assignment.{Assignment, Position}
use Rattle.hwdb_spec_commands.specs.Databases.{IsNoDatabase}
use Rattle.hwdb_spec.specs.Format.{IsDatabase}
use Rattle.hwdb_spec_commands.specs.Json.{hit_json, json_line}
use Rattle.hwdb_spec.specs.Texts.{IsSpelling, hit_text, within_limit}
use Rattle.hwdb_spec.specs.Tree.{Tree, answers_after}
use Rattle.hwdb_spec.specs.declared.DbFault.{DbFault}
use Rattle.hwdb_spec.specs.declared.errors.ToolError.TheVariants.{BadDatabase, BadPosition, Memory, Write}
use Rattle.hwdb_spec.specs.declared.errors.ToolError.{ToolError}

-- how many hits `list` holds at most
abbrev pub list_page : ℕ
list_page = 64

-- the line of a hit, as text or as JSON
abbrev pub line_of : (json : Bool) → Assignment → List ℕ
line_of false f = hit_text f
line_of true f = json_line (hit_json f)

-- the first lines of what `list` prints, whole
pub record IsListBeginning (json : Bool) (device : List ℕ) (after : Option (List ℕ)) (limit : Option ℕ) (bytes text : List ℕ) : Type 0 where
  pub from : Option Position
  pub spelled : IsFrom after from
  pub tree : Tree
  pub database : IsDatabase bytes tree
  pub lines : ℕ
  pub is : text ≡ flat_map (line_of json) (take lines (within_limit limit (answers_after device from tree)))

-- when each error of reading the text of a position comes
abbrev pub IsPositionRefusal : (after : Option (List ℕ)) → ToolError → Type 0
IsPositionRefusal (Some text) BadPosition = (p : Position) → IsSpelling p text → ⊥
IsPositionRefusal after Memory = Unit {0}
IsPositionRefusal after _ = ⊥

-- the text of the option spells a position if it is given, and the bytes are no database
pub record IsListFault (after : Option (List ℕ)) (bytes : List ℕ) (fault : DbFault) : Type 0 where
  pub from : Option Position
  pub spelled : IsFrom after from
  pub no_database : IsNoDatabase bytes fault

-- when each error of `list` comes: a text that spells no position before a fault of the database
abbrev pub IsListRefusal : (after : Option (List ℕ)) (bytes : List ℕ) → ToolError → Type 0
IsListRefusal (Some text) bytes BadPosition = (p : Position) → IsSpelling p text → ⊥
IsListRefusal after bytes (BadDatabase fault) = IsListFault after bytes fault
IsListRefusal after bytes Memory = Unit {0}
IsListRefusal after bytes Write = Unit {0}
IsListRefusal after bytes _ = ⊥
