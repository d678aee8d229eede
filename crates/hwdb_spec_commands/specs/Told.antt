-- What a file system tells of what it is asked, and why a run ends with an error, as data. Our choice.
use Rattle.std.specs.Prelude.{◌≡◌, ◌≤◌, ◌<◌, ◌⊎◌, ℕ, Bool, List, None, Option, Some, Result, Ok, Err, MatchResult, IfSome, false, filter, find, is_some, length, not, true}
use Rattle.std.specs.Str.{is_utf8}
use Rattle.hwdb_spec.specs.Store.{Contents, path_in}
use Rattle.hwdb_spec.specs.System.{AreNamesIn, bytes_at}
use Rattle.hwdb_spec.specs.Texts.{max_file}
use Rattle.hwdb_spec_commands.specs.Ignored.{AreIgnoredIn, text_folder}
use Rattle.hwdb_rulefiles.specs.RuleFolders.{counts}
use Rattle.hwdb_rulefiles.specs.declared.choice.Folder.{Folder}
use Rattle.hwdb_spec_commands.specs.Reading.{IsFolderAt}
use Rattle.hwdb_spec_commands.specs.RulePaths.{rules_folder}
use Rattle.hwdb_spec_commands.specs.Refusals.{IsUnreadable}
use Rattle.hwdb_spec.specs.declared.causes.Cause.{Cause}
use Rattle.hwdb_spec.specs.declared.causes.Cause.TheVariants as why
use Rattle.hwdb_spec.specs.declared.errors.ToolError.{ToolError}
use Rattle.hwdb_spec.specs.declared.errors.ToolError.TheVariants.{Memory, Read, TooLong}
use Rattle.hwdb_spec_commands.specs.declared.refusals.Refusal.{Refusal}
use Rattle.hwdb_spec_commands.specs.declared.refusals.Refusal.TheVariants as refusal
use Rattle.hwdb_spec_commands.specs.declared.unread.Unread.{Unread}
use Rattle.hwdb_spec_commands.specs.declared.unread.Unread.TheVariants as unread

-- why the names of a folder's text files aren't told: the folder can't be listed, or this one of them isn't UTF-8
pub data Unlisted : Type 0 where
  Unopened : Unread → Unlisted
  Misnamed : (name : List ℕ) → Unlisted

-- what each read of a path gives: of whatever can be read there, of a text file, and of a database; none only if nothing has its name
pub record Reads : Type 0 where
  pub input : (path : List ℕ) → Result (List ℕ) Unread
  pub text : (path : List ℕ) → Result (List ℕ) Unread
  pub database : (path : List ℕ) → Result (Option (List ℕ)) Unread
  -- the names of a folder's text files; those of what is at a path, none if that is no folder; and those of a folder's ignored files
  pub names : (folder : List ℕ) → Result (List (List ℕ)) Unlisted
  pub folder : (path : List ℕ) → Result (Option (List (List ℕ))) Unlisted
  pub ignored : (folder : List ℕ) → Result (List (List ℕ)) Unread

-- the first name that isn't UTF-8
abbrev pub first_misnamed : (names : List (List ℕ)) → Option (List ℕ)
first_misnamed names = find (λ name. not (is_utf8 name)) names

-- some names, or the one of them that isn't UTF-8
abbrev pub unless_misnamed : (misnamed : Option (List ℕ)) (names : List (List ℕ)) → Result (List (List ℕ)) Unlisted
unless_misnamed None names = Ok names
unless_misnamed (Some name) names = Err (Misnamed name)

-- the names of a listing, in its order, or the first of them that isn't UTF-8
abbrev pub names_told : (names : List (List ℕ)) → Result (List (List ℕ)) Unlisted
names_told names = unless_misnamed (first_misnamed names) names

-- the names of a folder's rules files, by what is told of its ignored files (udev(7))
abbrev pub rules_told : (ignored : Result (List (List ℕ)) Unread) → Result (List (List ℕ)) Unlisted
rules_told (Ok names) = names_told (filter counts names)
rules_told (Err w) = Err (Unopened w)

-- why a run ends with an error: a call failed, or it did over a path; no database is there; or what these words say
pub data Stop : Type 0 where
  Plain : ToolError → Stop
  Over : ToolError → (path : List ℕ) → Option Cause → Stop
  NoDatabase : Stop
  Says : (text : List ℕ) → Stop

-- what an error of the program says, as such a reason
abbrev pub stop_of : Refusal → Stop
stop_of (refusal.Plain error) = Plain error
stop_of (refusal.At error path cause) = Over error path.items cause
stop_of refusal.NoDatabase = NoDatabase
stop_of (refusal.InWords text) = Says text.items

-- what is said of a path that can't be read; memory that was refused is no path's
abbrev pub unread_stop : (path : List ℕ) → Unread → Stop
unread_stop path unread.TooLong = Over TooLong path None
unread_stop path (unread.Failed (Some why.Memory)) = Plain Memory
unread_stop path (unread.Failed cause) = Over Read path cause
unread_stop path unread.Memory = Plain Memory

-- what is said of a folder whose names aren't told
abbrev pub unlisted_stop : (folder : List ℕ) → Unlisted → Stop
unlisted_stop folder (Unopened w) = unread_stop folder w
unlisted_stop folder (Misnamed name) = Over Read (path_in folder name) (Some why.Name)

-- an error says this, or that memory was refused
abbrev pub IsStop : Stop → Refusal → Type 0
IsStop s r = (r ≡ refusal.Plain Memory) ⊎ (stop_of r ≡ s)

-- an error says why the path wasn't read, as it was told, or that memory was refused
abbrev pub IsUnreadAs : {X : Type 0} (answer : Result X Unread) (path : List ℕ) → Refusal → Type 0
IsUnreadAs answer path r = (r ≡ refusal.Plain Memory) ⊎ ((w : Unread) × (answer ≡ Err w) × (stop_of r ≡ unread_stop path w))

-- a read of a path gives what is told, or an error that says so, or memory was refused
abbrev pub IsReadTo : {X Y : Type 0} (value : Y → X) (answer : Result X Unread) (path : List ℕ) → Result Y Refusal → Type 0
IsReadTo value answer path result = MatchResult result (λ y. answer ≡ Ok (value y)) (IsUnreadAs answer path)

-- an error says why the names of a folder weren't told, as it was told, or that memory was refused
abbrev pub IsUnlistedAs : {X : Type 0} (answer : Result X Unlisted) (folder : List ℕ) → Refusal → Type 0
IsUnlistedAs answer folder r = (r ≡ refusal.Plain Memory) ⊎ ((u : Unlisted) × (answer ≡ Err u) × (stop_of r ≡ unlisted_stop folder u))

-- listing a folder gives the names that are told, in their order, or an error that says so, or memory was refused
abbrev pub IsListedTo : {X Y : Type 0} (value : Y → X) (answer : Result X Unlisted) (folder : List ℕ) → Result Y Refusal → Type 0
IsListedTo value answer folder result = MatchResult result (λ y. answer ≡ Ok (value y)) (IsUnlistedAs answer folder)

-- why a path isn't read is so: what is there is longer than a file may be, or it can't be read
abbrev pub IsSo : Contents → (Unreadable : Type 0) → (path : List ℕ) → Unread → Type 0
IsSo seen Unreadable path unread.TooLong = (is_some (bytes_at seen path) ≡ true) × IfSome (bytes_at seen path) (λ bytes. max_file < length bytes)
IsSo seen Unreadable path (unread.Failed cause) = Unreadable
IsSo seen Unreadable path unread.Memory = Unit {0}

-- why the names of a folder aren't told is so: this is of a listing that is too long; or listing it, or the path of a name, may fail
abbrev pub IsSoOfFolder : (Long : Type 0) (MayFail : (path : List ℕ) → Type 0) (folder : List ℕ) → Unlisted → Type 0
IsSoOfFolder Long MayFail folder (Unopened unread.TooLong) = Long
IsSoOfFolder Long MayFail folder (Unopened (unread.Failed cause)) = MayFail folder
IsSoOfFolder Long MayFail folder (Unopened unread.Memory) = Unit {0}
IsSoOfFolder Long MayFail folder (Misnamed name) = MayFail (path_in folder name) × (is_utf8 name ≡ false)

-- the same of a folder of text files below a root: if something is read at its path, that is longer than a file may be
abbrev pub IsSoOfTexts : Contents → (MayFail : (path : List ℕ) → Type 0) (usr : Bool) (root : List ℕ) → Unlisted → Type 0
IsSoOfTexts seen MayFail usr root u = IsSoOfFolder (IfSome (bytes_at seen (text_folder usr root)) (λ bytes. max_file < length bytes)) MayFail (text_folder usr root) u

-- the same of a folder of rules files
abbrev pub IsSoOfRules : Contents → (MayFail : (path : List ℕ) → Type 0) (root : List ℕ) → Folder → Unlisted → Type 0
IsSoOfRules seen MayFail root f u = IsSoOfFolder (IfSome (bytes_at seen (rules_folder root f)) (λ bytes. max_file < length bytes)) MayFail (rules_folder root f) u

-- what is told of each path is what is there, and of what isn't told the reason is so
pub record AreReadsOf (reads : Reads) (seen : Contents) (MayFail : (path : List ℕ) → Type 0) : Type 0 where
  pub input : (path bytes : List ℕ) → reads.input path ≡ Ok bytes → (bytes_at seen path ≡ Some bytes) × (length bytes ≤ max_file)
  pub no_input : (path : List ℕ) (w : Unread) → reads.input path ≡ Err w → IsSo seen (IsUnreadable MayFail seen path) path w
  pub text : (path bytes : List ℕ) → reads.text path ≡ Ok bytes → (bytes_at seen path ≡ Some bytes) × (length bytes ≤ max_file)
  pub no_text : (path : List ℕ) (w : Unread) → reads.text path ≡ Err w → IsSo seen (IsUnreadable MayFail seen path) path w
  pub database : (path : List ℕ) (found : Option (List ℕ)) → reads.database path ≡ Ok found → (bytes_at seen path ≡ found) × IfSome found (λ bytes. length bytes ≤ max_file)
  pub no_database : (path : List ℕ) (w : Unread) → reads.database path ≡ Err w → IsSo seen (MayFail path) path w
  pub names : (folder : List ℕ) (names : List (List ℕ)) → reads.names folder ≡ Ok names → AreNamesIn folder seen names
  pub no_names : (usr : Bool) (root : List ℕ) (u : Unlisted) → reads.names (text_folder usr root) ≡ Err u → IsSoOfTexts seen MayFail usr root u
  pub folder : (path : List ℕ) (found : Option (List (List ℕ))) → reads.folder path ≡ Ok found → IsFolderAt path seen found
  pub no_folder : (path : List ℕ) (u : Unlisted) → reads.folder path ≡ Err u → IsSoOfFolder (bytes_at seen path ≡ None) MayFail path u
  pub ignored : (usr : Bool) (root : List ℕ) (names : List (List ℕ)) → reads.ignored (text_folder usr root) ≡ Ok names → AreIgnoredIn (text_folder usr root) seen names
  pub no_ignored : (usr : Bool) (root : List ℕ) (w : Unread) → reads.ignored (text_folder usr root) ≡ Err w → IsSoOfTexts seen MayFail usr root (Unopened w)
  -- a folder of rules files is one, too
  pub rules : (root : List ℕ) (f : Folder) (names : List (List ℕ)) → reads.ignored (rules_folder root f) ≡ Ok names → AreIgnoredIn (rules_folder root f) seen names
  pub no_rules : (root : List ℕ) (f : Folder) (w : Unread) → reads.ignored (rules_folder root f) ≡ Err w → IsSoOfRules seen MayFail root f (Unopened w)
