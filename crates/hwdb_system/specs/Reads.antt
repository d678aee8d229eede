-- What each file system tells of what it is asked. Our choice.
use Rattle.std.specs.Prelude.{ℕ, List, false, true, None, Option, Some, Result, Ok, Err, is_some, pos, if◌then◌else◌}
use Rattle.std.specs.Str.{bytes_eq}
use Rattle.hwdb_spec_commands.specs.Asked.{database_path}
use Rattle.hwdb_spec.specs.System.{bytes_at}
use Rattle.hwdb_spec_commands.specs.Told.{Reads, names_told}
use Rattle.hwdb_spec_commands.specs.Told.Unlisted.{Unopened}
use Rattle.hwdb_spec.specs.declared.causes.Cause.TheVariants as why
use Rattle.hwdb_spec_commands.specs.declared.unread.Unread.{Unread}
use Rattle.hwdb_spec_commands.specs.declared.unread.Unread.TheVariants as unread
use Rattle.hwdb_replace.specs.Memory.{seen_of}
use Rattle.hwdb_replace.specs.declared.memory.Step.{Step}
use Rattle.hwdb_system.specs.Internal.{names_after}
use Rattle.hwdb_system.specs.Raw.{present, told_bytes}

-- what the file system that the runtime reaches is said to tell: nothing, since no contract of the library says what it answers
abbrev pub no_reads : Reads
no_reads = record {
  input = λ path. Err unread.Memory;
  text = λ path. Err unread.Memory;
  database = λ path. Err unread.Memory;
  names = λ folder. Err (Unopened unread.Memory);
  folder = λ path. Err (Unopened unread.Memory);
  ignored = λ folder. Err unread.Memory;
}

-- of a file system in memory: what is at a path, or that nothing is (ENOENT, 2)
abbrev pub file_told : Option (List ℕ) → Result (List ℕ) Unread
file_told None = Err (unread.Failed (Some (why.System (pos 2))))
file_told (Some bytes) = told_bytes bytes

-- what is at a path, if something is
abbrev pub found_told : Option (List ℕ) → Result (Option (List ℕ)) Unread
found_told None = Ok None
found_told (Some bytes) = present (told_bytes bytes)

-- what it tells after these steps; what is no file is a folder
abbrev pub memory_reads : List Step → Reads
memory_reads steps = record {
  input = λ path. file_told (bytes_at (seen_of steps) path);
  text = λ path. file_told (bytes_at (seen_of steps) path);
  database = λ path. found_told (bytes_at (seen_of steps) path);
  names = λ folder. names_told (names_after false steps folder);
  folder = λ path. if is_some (bytes_at (seen_of steps) path) then Ok None else present (names_told (names_after false steps path));
  ignored = λ folder. Ok (names_after true steps folder);
}

-- what a file system tells that has these bytes as the database of /etc below a root: of any other path what the one below it tells
abbrev pub with_read : (root made : List ℕ) → Reads → Reads
with_read root made w = record {
  input = λ path. if bytes_eq path (database_path false root) then told_bytes made else w.input path;
  text = λ path. if bytes_eq path (database_path false root) then told_bytes made else w.text path;
  database = λ path. if bytes_eq path (database_path false root) then present (told_bytes made) else w.database path;
  names = w.names;
  folder = λ path. if bytes_eq path (database_path false root) then Ok None else w.folder path;
  ignored = w.ignored;
}
