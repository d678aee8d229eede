-- When each error of checking text files comes. Our choice.
use Rattle.std.specs.Prelude.{ℕ, List, ◌<◌, Any, length}
use Rattle.hwdb_spec.specs.Lines.{lines}
use Rattle.hwdb_spec.specs.Folders.{Source, max_lines}
use Rattle.hwdb_spec.specs.declared.errors.ScanError.{ScanError}
use Rattle.hwdb_spec.specs.declared.errors.ScanError.TheVariants.{Memory, TooManyLines}

-- when each error of checking a file comes
abbrev pub IsFileRefusal : (bytes : List ℕ) → ScanError → Type 0
IsFileRefusal bytes TooManyLines = max_lines < length (lines bytes)
IsFileRefusal bytes Memory = Unit {0}

-- one of the files has more lines than can be numbered
abbrev pub HasLongFile : List Source → Type 0
HasLongFile files = Any (λ (s : Source). max_lines < length (lines s.bytes)) files

-- when each error of checking some files comes
abbrev pub IsCheckRefusal : List Source → ScanError → Type 0
IsCheckRefusal files TooManyLines = HasLongFile files
IsCheckRefusal files Memory = Unit {0}
