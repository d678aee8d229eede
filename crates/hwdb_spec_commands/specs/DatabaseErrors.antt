-- When each error of answering from the bytes of a database comes. Our choice.
use Rattle.std.specs.Prelude.{List, ℕ}
use Rattle.hwdb_spec_commands.specs.Databases.{IsNoDatabase}
use Rattle.hwdb_spec.specs.declared.errors.ToolError.{ToolError}
use Rattle.hwdb_spec.specs.declared.errors.ToolError.TheVariants.{BadDatabase, Memory, Write}

-- when each error comes, before anything is written
abbrev pub IsDatabaseRefusal : (bytes : List ℕ) → ToolError → Type 0
IsDatabaseRefusal bytes (BadDatabase fault) = IsNoDatabase bytes fault
IsDatabaseRefusal bytes Memory = Unit {0}
IsDatabaseRefusal bytes _ = ⊥

-- the same of `query` and `explain`, which write
abbrev pub IsQueryRefusal : (bytes : List ℕ) → ToolError → Type 0
IsQueryRefusal bytes (BadDatabase fault) = IsNoDatabase bytes fault
IsQueryRefusal bytes Memory = Unit {0}
IsQueryRefusal bytes Write = Unit {0}
IsQueryRefusal bytes _ = ⊥
