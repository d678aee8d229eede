-- When each error of the compiler comes. Our choice.
use Rattle.std.specs.Prelude.{List, length, ℕ, ◌<◌}
use Rattle.hwdb_spec.specs.Folders.{Source, HaveManyLines, chosen_of, max_files}
use Rattle.hwdb_spec.specs.Written.{IsTooLarge}
use Rattle.hwdb_spec.specs.declared.errors.CompileError.{CompileError}
use Rattle.hwdb_spec.specs.declared.errors.CompileError.TheVariants.{Memory, TooLarge, TooManyFiles, TooManyLines}

-- when the choice fails
abbrev pub IsChoiceRefusal : (etc usr : List Source) → CompileError → Type 0
IsChoiceRefusal etc usr TooManyFiles = max_files < length (chosen_of etc usr)
IsChoiceRefusal etc usr TooManyLines = ⊥
IsChoiceRefusal etc usr TooLarge = ⊥
IsChoiceRefusal etc usr Memory = Unit {0}

-- when each error comes: too many files before all, then too many lines, then a database that is too large
abbrev pub IsRefusal : (etc usr : List Source) (max_bytes : ℕ) → CompileError → Type 0
IsRefusal etc usr max_bytes TooManyFiles = max_files < length (chosen_of etc usr)
IsRefusal etc usr max_bytes TooManyLines = HaveManyLines etc usr
IsRefusal etc usr max_bytes TooLarge = IsTooLarge etc usr max_bytes
IsRefusal etc usr max_bytes Memory = Unit {0}
