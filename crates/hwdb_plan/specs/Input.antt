-- Standard input as a question of a plan. Words that name it by `-` ask for a file with the name that errors give it. Our choice.
use Rattle.std.specs.Prelude.{◌≡◌, ◌≤◌, ◌<◌, ℕ, Bool, true, false, List, None, Option, Some, Result, Ok, Err, IfSome, if◌then◌else◌, codes, length}
use Rattle.std.specs.Str.{bytes_eq}
use Rattle.hwdb_spec.specs.Failures.{HasFailed}
use Rattle.hwdb_spec_commands.specs.Given.{is_dash}
use Rattle.hwdb_spec.specs.Texts.{max_file}
use Rattle.hwdb_spec_commands.specs.Told.{Reads}
use Rattle.hwdb_spec_commands.specs.declared.unread.Unread.{Unread}
use Rattle.hwdb_spec_commands.specs.declared.unread.Unread.TheVariants as unread

-- What is told of standard input is what it had left, no more than a file may have. Or it isn't read, for a reason that is so: it has more,
-- or a call of it failed.
abbrev pub IsInputTold : (input : Option (List ℕ)) (failures_before failures_now : ℕ) → Result (List ℕ) Unread → Type 0
IsInputTold input before now (Ok bytes) = IfSome input (λ told. bytes ≡ told) × (length bytes ≤ max_file)
IsInputTold input before now (Err unread.TooLong) = IfSome input (λ told. max_file < length told)
IsInputTold input before now (Err (unread.Failed cause)) = HasFailed before now
IsInputTold input before now (Err unread.Memory) = Unit {0}

-- a database that is there, if the answer tells its bytes
abbrev pub found_by : Result (List ℕ) Unread → Result (Option (List ℕ)) Unread
found_by (Ok bytes) = Ok (Some bytes)
found_by (Err why) = Err why

-- a file system that tells this of a file with the name that errors give standard input, and of others what another one tells
abbrev pub reads_with : (answer : Result (List ℕ) Unread) → Reads → Reads
reads_with answer w = record {
  input = λ path. if bytes_eq path (codes "standard input") then answer else w.input path;
  text = λ path. if bytes_eq path (codes "standard input") then answer else w.text path;
  database = λ path. if bytes_eq path (codes "standard input") then found_by answer else w.database path;
  names = w.names;
  folder = λ path. if bytes_eq path (codes "standard input") then Ok None else w.folder path;
  ignored = w.ignored;
}

-- so of that name, and of what is told then
abbrev pub OverInput : (input : Option (List ℕ)) (failures_before failures_now : ℕ) → Reads → (Is : (path : List ℕ) → Reads → Type 0) → Type 0
OverInput input before now w Is = (answer : Result (List ℕ) Unread) × IsInputTold input before now answer × Is (codes "standard input") (reads_with answer w)

-- so of a path that words give, and of what is told: `-` stands for that name
abbrev pub OverGiven : (dash : Bool) (path : List ℕ) (input : Option (List ℕ)) (failures_before failures_now : ℕ) → Reads → (Is : (path : List ℕ) → Reads → Type 0) → Type 0
OverGiven true path input before now w Is = OverInput input before now w Is
OverGiven false path input before now w Is = Is path w

-- the same, if words give a path or none
abbrev pub OverNamed : (given input : Option (List ℕ)) (failures_before failures_now : ℕ) → Reads → (Is : (given : Option (List ℕ)) → Reads → Type 0) → Type 0
OverNamed None input before now w Is = Is None w
OverNamed (Some path) input before now w Is = OverGiven (is_dash path) path input before now w (λ at. Is (Some at))
