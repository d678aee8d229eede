-- Which errors come of trying test files over a database. Our choice.
use Rattle.std.specs.Prelude.{◌≡◌, ◌≤◌, ◌⊎◌, List, Option, Some, is_some, length, true, ℕ}
use Rattle.hwdb_spec_commands.specs.Databases.{IsNoDatabase}
use Rattle.hwdb_spec.specs.Folders.{Source}
use Rattle.hwdb_spec_commands.specs.CheckErrors.{HasLongFile}
use Rattle.hwdb_spec.specs.declared.errors.ToolError.{ToolError}
use Rattle.hwdb_spec.specs.declared.errors.ToolError.TheVariants.{BadDatabase, Memory, TooManyLines}

-- an error of trying some files over these bytes: they are no database, or a file has too many lines
abbrev pub IsTrialRefusal : (sources : List Source) (bytes : List ℕ) → ToolError → Type 0
IsTrialRefusal sources bytes (BadDatabase fault) = IsNoDatabase bytes fault
IsTrialRefusal sources bytes TooManyLines = HasLongFile sources
IsTrialRefusal sources bytes Memory = Unit {0}
IsTrialRefusal sources bytes _ = ⊥
