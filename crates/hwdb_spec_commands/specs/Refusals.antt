-- The errors that end the program, and the line of each. Our choice; the words of a cause are those of strerror(3).
use Rattle.hwdb_spec.specs.Failures.{HasFailed}
use Rattle.std.specs.Prelude.{◌≡◌, ◌⊎◌, ◌<◌, ℕ, List, [], ◌∷◌, ◌++◌, Option, None, Some, IfSome, codes, is_some, length, true}
use Rattle.std.specs.Io.KnownBytes.{Appends}
use Rattle.hwdb_spec.specs.Lines.{byte}
use Rattle.hwdb_spec.specs.Store.{Contents, path_in}
use Rattle.hwdb_spec.specs.System.{bytes_at}
use Rattle.hwdb_spec.specs.Texts.{max_file}
use Rattle.hwdb_spec_commands.specs.Verdicts.{fault_line}
use Rattle.hwdb_spec.specs.Visible.{shown_name}
use Rattle.hwdb_spec.specs.Outputs.{AppendsPrefix}
use Rattle.hwdb_spec.specs.Errors.{error_text}
use Rattle.hwdb_spec.specs.declared.causes.Cause.{Cause}
use Rattle.hwdb_spec.specs.declared.errors.ToolError.TheVariants.{BadDatabase, Read, Write, TooLong, Memory, Replace}
use Rattle.hwdb_spec.specs.declared.errors.ToolError.{ToolError}
use Rattle.hwdb_spec_commands.specs.declared.refusals.Refusal.{Refusal}
use Rattle.hwdb_spec_commands.specs.declared.refusals.Refusal.TheVariants.{Plain, At, NoDatabase, InWords}

-- a path, as names are shown, and after it the words of the cause, if one is known
abbrev pub file_text : (path : List ℕ) → Option Cause → (words : List ℕ) → List ℕ
file_text path None words = shown_name path
file_text path (Some cause) words = shown_name path ++ (codes ": " ++ words)

-- what is printed of an error over a path, if the cause has these words
abbrev pub path_text : ToolError → (path : List ℕ) → Option Cause → (words : List ℕ) → List ℕ
path_text Read path cause words = codes "cannot read " ++ file_text path cause words
path_text Write path cause words = codes "cannot write " ++ file_text path cause words
path_text TooLong path cause words = shown_name path ++ codes " is longer than 268435456 bytes"
path_text (BadDatabase fault) path cause words = fault_line path fault
path_text error path cause words = error_text error

-- what is printed of an error that ends the program
abbrev pub refusal_text : Refusal → (words : List ℕ) → List ℕ
refusal_text (Plain error) words = error_text error
refusal_text (At error path cause) words = path_text error path.items cause words
refusal_text NoDatabase words = codes "no database"
refusal_text (InWords text) words = text.items

-- its line: the program's name, a colon and a space, the text, and a newline
abbrev pub refusal_line : List ℕ → List ℕ
refusal_line text = codes "hwdb: " ++ (text ++ byte "\n" ∷ [])

-- a sink took the line, or, if a call of it failed, a prefix of it
pub record Refused (line : List ℕ) (before now : Option (List ℕ)) (failures_before failures_now : ℕ) : Type 0 where
  pub prefix : AppendsPrefix before now line
  pub whole : HasFailed failures_before failures_now ⊎ Appends before now line

-- an error of reading a path: it names the path, but for memory
abbrev pub IsUnread : (path : List ℕ) → Refusal → Type 0
IsUnread path (Plain Memory) = Unit {0}
IsUnread path (At Read at cause) = at.items ≡ path
IsUnread path (At TooLong at cause) = at.items ≡ path
IsUnread path (At Memory at cause) = at.items ≡ path
IsUnread path _ = ⊥

-- the same, and what is said to be too long is there
abbrev pub IsUnreadAt : Contents → (path : List ℕ) → Refusal → Type 0
IsUnreadAt contents path (At TooLong at cause) = (at.items ≡ path) × (is_some (bytes_at contents path) ≡ true)
IsUnreadAt contents path refusal = IsUnread path refusal

-- an error of going below a root: it is no folder, or it can't be looked at
abbrev pub IsUnentered : (root : List ℕ) → Refusal → Type 0
IsUnentered root (Plain Memory) = Unit {0}
IsUnentered root (At Read at cause) = at.items ≡ root
IsUnentered root (At Memory at cause) = at.items ≡ root
IsUnentered root _ = ⊥

-- an error of listing a folder: of the folder, or of a name in it
abbrev pub IsUnlisted : (folder : List ℕ) → Refusal → Type 0
IsUnlisted folder (At Read at cause) = (at.items ≡ folder) ⊎ ((name : List ℕ) × (at.items ≡ path_in folder name))
IsUnlisted folder refusal = IsUnread folder refusal

-- a file can't be read: nothing is at its path, or reading that may fail
abbrev pub IsUnreadable : (MayFail : (path : List ℕ) → Type 0) → Contents → (path : List ℕ) → Type 0
IsUnreadable MayFail contents path = (bytes_at contents path ≡ None) ⊎ MayFail path

-- what an error says of a path is so: it can't be read, it can't be written, or what is there is too long
abbrev pub HasReason : (Unreadable : (path : List ℕ) → Type 0) (Unwritable : Type 0) → Contents → Refusal → Type 0
HasReason Unreadable Unwritable contents (At Read at cause) = Unreadable at.items
HasReason Unreadable Unwritable contents (At Write at cause) = Unwritable
HasReason Unreadable Unwritable contents (At TooLong at cause) = IfSome (bytes_at contents at.items) (λ bytes. max_file < length bytes)
HasReason Unreadable Unwritable contents refusal = Unit {0}

-- this error over this path, or want of memory
abbrev pub IsAt : ToolError → (path : List ℕ) → Refusal → Type 0
IsAt error path (Plain e) = e ≡ Memory
IsAt error path (At e at cause) = (e ≡ error) × (at.items ≡ path)
IsAt error path _ = ⊥

-- the same, for this cause
abbrev pub IsOfCause : ToolError → (path : List ℕ) → Option Cause → Refusal → Type 0
IsOfCause error path cause (Plain e) = e ≡ Memory
IsOfCause error path cause (At e at because) = (e ≡ error) × (at.items ≡ path) × (because ≡ cause)
IsOfCause error path cause _ = ⊥

-- an error in these words, or want of memory
abbrev pub IsInWords : (text : List ℕ) → Refusal → Type 0
IsInWords text (Plain e) = e ≡ Memory
IsInWords text (InWords said) = said.items ≡ text
IsInWords text _ = ⊥

-- this error over this path
abbrev pub IsOver : ToolError → (path : List ℕ) → Refusal → Type 0
IsOver error path (At e at cause) = (e ≡ error) × (at.items ≡ path)
IsOver error path _ = ⊥

-- what an error of an update becomes after its files are read: with the path, if the database can't be replaced
abbrev pub IsOfUpdate : ToolError → (path : List ℕ) → Refusal → Type 0
IsOfUpdate (Replace u) path refusal = IsOver Write path refusal
IsOfUpdate error path refusal = refusal ≡ Plain error

-- what an error over the bytes of a database becomes: a fault gets the path at which they are
abbrev pub IsOfDatabase : ToolError → (path : List ℕ) → Refusal → Type 0
IsOfDatabase (BadDatabase fault) path refusal = IsAt (BadDatabase fault) path refusal
IsOfDatabase error path refusal = refusal ≡ Plain error
