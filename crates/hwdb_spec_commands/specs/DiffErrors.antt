-- When each error of comparing two databases comes. Our choice.
use Rattle.std.specs.Prelude.{List, ℕ}
use Rattle.hwdb_spec.specs.declared.errors.DiffError.{DiffError}
use Rattle.hwdb_spec.specs.declared.errors.DiffError.TheVariants.{Memory, New, Old}
use Rattle.hwdb_spec_commands.specs.Databases.{IsNewRefused, IsNoDatabase}

-- when each error of `diff` comes: a fault of the old database before one of the new
abbrev pub IsDiffRefusal : (old new : List ℕ) → DiffError → Type 0
IsDiffRefusal old new (Old fault) = IsNoDatabase old fault
IsDiffRefusal old new (New fault) = IsNewRefused old new fault
IsDiffRefusal old new Memory = Unit {0}
