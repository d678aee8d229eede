-- The database that a command reads: that at a path, or the one below a root that is asked. And what `query`, `explain`, `list`,
-- `verify` and `dump` print of it. `query` is systemd-hwdb(8)'s; the others are our choice.
use Rattle.std.specs.Prelude.{◌++◌, ◌≡◌, ◌≤◌, ◌⊎◌, Bool, List, None, Option, Some, codes, false, length, true, ℕ}
use Rattle.hwdb_spec.specs.Assignment.{Position}
use Rattle.hwdb_spec_commands.specs.Databases.{IsTextOf}
use Rattle.hwdb_spec_commands.specs.Json.{list_json}
use Rattle.hwdb_spec_commands.specs.Reports.{shown}
use Rattle.hwdb_spec.specs.Store.{Contents, database_name, path_in}
use Rattle.hwdb_spec.specs.System.{asked_database, bytes_at, database_folder}
use Rattle.hwdb_spec.specs.Texts.{IsSpelling, list_text, max_file}
use Rattle.hwdb_spec.specs.Tree.{Tree}
use Rattle.hwdb_spec.specs.Visible.{shown_name}

-- the path of the database in one of the folders below a root
abbrev pub database_path : (usr : Bool) (root : List ℕ) → List ℕ
database_path usr root = path_in (database_folder usr root) database_name

-- what the database holds: that at the given path, or if none is given the one that is asked
abbrev pub named_database : (given : Option (List ℕ)) (root : List ℕ) → Contents → Option (List ℕ)
named_database None root contents = asked_database root contents
named_database (Some path) root contents = bytes_at contents path

-- the text is what its bytes give, which are no more than a file may have
pub record IsPrinted (given : Option (List ℕ)) (root : List ℕ) (Is : (bytes text : List ℕ) → Type 0) (contents : Contents) (text : List ℕ) : Type 0 where
  pub bytes : List ℕ
  pub named : named_database given root contents ≡ Some bytes
  pub within : length bytes ≤ max_file
  pub is : Is bytes text

-- the words of a database with an assignment that no text says: its path, and the pattern, as `check` shows bytes
abbrev pub unsayable_text : (path pattern : List ℕ) → List ℕ
unsayable_text path pattern = shown_name path ++ (codes ": no text file can say an assignment of the pattern " ++ shown pattern)

-- the text is what the database that is asked gives
abbrev pub IsAnswered : (root : List ℕ) (Is : (bytes text : List ℕ) → Type 0) → Contents → (text : List ℕ) → Type 0
IsAnswered root Is = IsPrinted None root Is

-- the text of the option, if there is one, spells the position
abbrev pub IsFrom : (after : Option (List ℕ)) → Option Position → Type 0
IsFrom None None = Unit {0}
IsFrom (Some text) (Some p) = IsSpelling p text
IsFrom _ _ = ⊥

-- what is printed, as text or with `--json`
abbrev pub list_form : (json : Bool) → List ℕ → Option Position → Option ℕ → Tree → List ℕ
list_form false = list_text
list_form true = list_json

-- what `list` prints from there on
pub record IsListFrom (json : Bool) (device : List ℕ) (after : Option (List ℕ)) (limit : Option ℕ) (bytes text : List ℕ) : Type 0 where
  pub from : Option Position
  pub spelled : IsFrom after from
  pub is : IsTextOf (list_form json device from limit) bytes text
