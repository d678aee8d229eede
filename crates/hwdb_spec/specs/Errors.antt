-- What an error becomes for the caller of a call, and the words of each error. Our choice.
use Rattle.std.specs.Prelude.{ℕ, List, ◌++◌, codes}
use Rattle.hwdb_spec.specs.Texts.{db_fault_name, db_fault_offset, at_offset}
use Rattle.hwdb_spec.specs.declared.errors.ToolError.TheVariants.{Memory, TooManyFiles, TooManyLines, TooLarge, BadPosition, BadDatabase, Replace, Read, Write, TooLong}
use Rattle.hwdb_spec.specs.declared.errors.ToolError.{ToolError}
use Rattle.hwdb_spec.specs.declared.errors.CompileError.{CompileError}
use Rattle.hwdb_spec.specs.declared.errors.CompileError.TheVariants as compiling
use Rattle.hwdb_spec.specs.declared.errors.PositionError.{PositionError}
use Rattle.hwdb_spec.specs.declared.errors.PositionError.TheVariants as positions
use Rattle.hwdb_spec.specs.declared.errors.ReadError.{ReadError}
use Rattle.hwdb_spec.specs.declared.errors.ReadError.TheVariants as reading
use Rattle.hwdb_spec.specs.declared.errors.ScanError.{ScanError}
use Rattle.hwdb_spec.specs.declared.errors.ScanError.TheVariants as scan
use Rattle.hwdb_spec.specs.declared.errors.SelectError.{SelectError}
use Rattle.hwdb_spec.specs.declared.errors.SelectError.TheVariants as select
use Rattle.hwdb_spec.specs.declared.errors.StoreError.{StoreError}
use Rattle.hwdb_spec.specs.declared.errors.StoreError.TheVariants as store

-- an error of the choice of files, as one of the program
abbrev pub refusal_of_select : SelectError → ToolError
refusal_of_select select.TooManyFiles = TooManyFiles
refusal_of_select select.Memory = Memory

-- one of a source's reading
abbrev pub refusal_of_read : ReadError → ToolError
refusal_of_read reading.Failed = Read
refusal_of_read reading.TooLong = TooLong
refusal_of_read reading.Memory = Memory

-- one of a file's lines
abbrev pub refusal_of_scan : ScanError → ToolError
refusal_of_scan scan.TooManyLines = TooManyLines
refusal_of_scan scan.Memory = Memory

-- one of the compiler
abbrev pub refusal_of_compile : CompileError → ToolError
refusal_of_compile compiling.TooManyFiles = TooManyFiles
refusal_of_compile compiling.TooManyLines = TooManyLines
refusal_of_compile compiling.TooLarge = TooLarge
refusal_of_compile compiling.Memory = Memory

-- one of a position's text
abbrev pub refusal_of_position : PositionError → ToolError
refusal_of_position positions.BadPosition = BadPosition
refusal_of_position positions.Memory = Memory

-- the words of an error; of a fault of the database there are more
abbrev pub error_words : ToolError → List ℕ
error_words Read = codes "cannot read"
error_words Write = codes "cannot write"
error_words TooLong = codes "a file is longer than 268435456 bytes"
error_words TooManyFiles = codes "more than 65535 files"
error_words TooManyLines = codes "a file has more than 4294967295 lines"
error_words TooLarge = codes "the database would be larger than 268435456 bytes"
error_words BadPosition = codes "bad position"
error_words (BadDatabase fault) = codes "bad database: "
error_words (Replace _) = codes "cannot write"
error_words Memory = codes "out of memory"

-- what is printed of an error that has no path
abbrev pub error_text : ToolError → List ℕ
error_text (BadDatabase fault) = codes "bad database: " ++ at_offset (db_fault_name fault) (db_fault_offset fault)
error_text error = error_words error

-- what the compiler makes of an error of the choice of files
abbrev pub of_select : SelectError → CompileError
of_select select.TooManyFiles = compiling.TooManyFiles
of_select select.Memory = compiling.Memory

-- of one of a file's lines
abbrev pub of_scan : ScanError → CompileError
of_scan scan.TooManyLines = compiling.TooManyLines
of_scan scan.Memory = compiling.Memory

-- and of one of the writer
abbrev pub of_store : StoreError → CompileError
of_store store.TooLarge = compiling.TooLarge
of_store store.Memory = compiling.Memory
