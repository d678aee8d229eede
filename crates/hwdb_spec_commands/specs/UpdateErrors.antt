-- When each error of `update` and `ask` comes, and what it leaves (systemd-hwdb(8); `ask` is our choice).
use Rattle.std.specs.Io.KnownBytes.{Appends}
use Rattle.std.specs.Prelude.{List, Option, [], ℕ}
use Rattle.hwdb_spec.specs.CompileErrors.{IsRefusal}
use Rattle.hwdb_spec.specs.Folders.{HaveManyLines, Source}
use Rattle.hwdb_spec_commands.specs.LoneFile.{lone}
use Rattle.hwdb_spec_commands.specs.Progress.{update_text}
use Rattle.hwdb_spec.specs.Store.{Contents, Outcomes}
use Rattle.hwdb_spec_commands.specs.Summary.{depth}
use Rattle.hwdb_spec.specs.Tree.{map_of_files}
use Rattle.hwdb_spec.specs.Written.{IsCompiled, IsTooLarge, IsWritten}
use Rattle.hwdb_spec.specs.NotReplaced.{IsLeft, IsSeen}
use Rattle.hwdb_spec.specs.declared.errors.Unreplaced.{Unreplaced}
use Rattle.hwdb_spec.specs.declared.errors.ToolError.{ToolError}
use Rattle.hwdb_spec.specs.declared.errors.ToolError.TheVariants.{Memory, Replace, TooLarge, TooManyFiles, TooManyLines, Write}
use Rattle.hwdb_spec.specs.declared.errors.CompileError.TheVariants as compiling

-- the database wasn't replaced; what was to be written is the written form of the files' map
abbrev pub OnUnreplaced : (Unreplaced → Type 0) → ToolError → Type 0
OnUnreplaced P (Replace u) = P u
OnUnreplaced P _ = Unit {0}

-- `err` took what is said of the files, and this is what the replacement left
pub record UpdateUndone (etc usr : List Source) (listed : Option (List (List ℕ))) (folder : List ℕ) (err_before err_now : Option (List ℕ)) (tells : Type 0) (old new : Contents) (before now : Outcomes) (u : Unreplaced) : Type 0 where
  pub database : List ℕ
  pub written : IsWritten (map_of_files etc usr) database
  pub compiled : IsCompiled etc usr database
  pub told : Appends err_before err_now (update_text listed etc usr (depth compiled.0))
  pub seen : tells → IsSeen folder database old new u
  pub left : tells → IsLeft folder database old before now u

-- the errors of putting a database in its place
abbrev pub IsPlaceRefusal : ToolError → Type 0
IsPlaceRefusal Write = Unit {0}
IsPlaceRefusal Memory = Unit {0}
IsPlaceRefusal (Replace _) = Unit {0}
IsPlaceRefusal _ = ⊥

-- when each error of `update` comes
abbrev pub IsUpdateRefusal : (etc usr : List Source) (max_bytes : ℕ) → ToolError → Type 0
IsUpdateRefusal etc usr max_bytes TooManyFiles = IsRefusal etc usr max_bytes compiling.TooManyFiles
IsUpdateRefusal etc usr max_bytes TooManyLines = IsRefusal etc usr max_bytes compiling.TooManyLines
IsUpdateRefusal etc usr max_bytes TooLarge = IsRefusal etc usr max_bytes compiling.TooLarge
IsUpdateRefusal etc usr max_bytes Write = Unit {0}
IsUpdateRefusal etc usr max_bytes Memory = Unit {0}
IsUpdateRefusal etc usr max_bytes (Replace _) = Unit {0}
IsUpdateRefusal etc usr max_bytes _ = ⊥

-- when each error of `ask` comes, with the program's limit
abbrev pub IsAskRefusal : (bytes : List ℕ) (max_bytes : ℕ) → ToolError → Type 0
IsAskRefusal bytes max_bytes TooManyLines = HaveManyLines (lone bytes) []
IsAskRefusal bytes max_bytes TooLarge = IsTooLarge (lone bytes) [] max_bytes
IsAskRefusal bytes max_bytes Write = Unit {0}
IsAskRefusal bytes max_bytes Memory = Unit {0}
IsAskRefusal bytes max_bytes _ = ⊥
