-- What a path of `diff` means, which is a side of it: a database, a text file, a folder of text files, or a root. Of text files it is
-- the database that `update` would write. And the errors of that. Our choice.
--
-- A root is read as `update -r` reads it: what is at a path below it is what that path leads to inside the root. No link leads out of
-- it. Of a folder of text files a link leads where the system has it lead, as for `check`.
use Rattle.std.specs.Prelude.{◌++◌, ◌==◌, ◌∷◌, ◌≡◌, ◌≤◌, ◌⊎◌, Bool, List, Some, [], false, codes, if◌then◌else◌, length, map, not, true, ℕ}
use Rattle.hwdb_spec_commands.specs.CheckedFiles.{AreNamedFiles, StandFor, folder_of, is_file}
use Rattle.hwdb_spec.specs.Folders.{Source, choice, counts}
use Rattle.hwdb_spec_commands.specs.GivenFolders.{AreTooMany, IsUnlistedFolder}
use Rattle.hwdb_spec.specs.Lines.{byte, has}
use Rattle.hwdb_spec_commands.specs.Reading.{AreUnread}
use Rattle.hwdb_spec_commands.specs.Reasons.{IsOfFiles}
use Rattle.hwdb_spec_commands.specs.Refusals.{IsInWords, IsUnreadAt}
use Rattle.hwdb_spec_commands.specs.StatusErrors.{AreNotMade, IsNotCompiled}
use Rattle.hwdb_spec.specs.Store.{Contents}
use Rattle.hwdb_spec.specs.System.{AreNamesIn, etc_files, usr_files}
use Rattle.hwdb_spec_commands.specs.Undone.{IsGivenUnread}
use Rattle.hwdb_spec_commands.specs.declared.refusals.Refusal.{Refusal}
use Rattle.hwdb_spec.specs.Visible.{shown_name}

-- ---- which of the four it is

-- the name of what is at a path: all after the last slash
unfoldable pub file_name : (path : List ℕ) → List ℕ
file_name [] = []
file_name (b ∷ more) = if has (byte "/") (b ∷ more) then file_name more else b ∷ more

-- whether it is one of a text file
abbrev pub names_text : (path : List ℕ) → Bool
names_text path = counts (file_name path)

-- what a side is; of a folder without text files there is nothing to compare
pub data Kind : Type 0 where
  Database : Kind
  Texts : Kind
  Root : Kind
  Empty : Kind

-- whether text files are in one of the folders below a root where `update` looks for them
pub record HasTexts (root : List ℕ) (contents : Contents) (answer : Bool) : Type 0 where
  pub etc : List (List ℕ)
  pub usr : List (List ℕ)
  pub in_etc : AreNamesIn (etc_files root) contents etc
  pub in_usr : AreNamesIn (usr_files root) contents usr
  pub is : answer ≡ not (length (choice etc usr) == 0)

-- whether text files are in a folder itself
pub record HasOwn (folder : List ℕ) (contents : Contents) (answer : Bool) : Type 0 where
  pub names : List (List ℕ)
  pub in_folder : AreNamesIn folder contents names
  pub is : answer ≡ not (length names == 0)

-- A file is a database, but for one with the name of a text file. A folder is a root if it has text files of `update`. Else it has
-- text files of its own, or none.
abbrev pub IsKind : Kind → (path : List ℕ) → Contents → Type 0
IsKind Database path contents = (is_file contents path ≡ true) × (names_text path ≡ false)
IsKind Texts path contents =
    ((is_file contents path ≡ true) × (names_text path ≡ true))
    ⊎ ((is_file contents path ≡ false) × HasTexts (folder_of path) contents false × HasOwn (folder_of path) contents true)
IsKind Root path contents = (is_file contents path ≡ false) × HasTexts (folder_of path) contents true
IsKind Empty path contents = (is_file contents path ≡ false) × HasTexts (folder_of path) contents false × HasOwn (folder_of path) contents false

-- ---- the bytes of a side

-- what stands before the path of a text file of a side, where the database stores it. No file that `update` reads has two slashes there.
abbrev pub given_front : List ℕ
given_front = codes "/etc/udev/hwdb.d//"

-- A text file, as if it was in /etc/udev/hwdb.d, under the path that was given. Files of one folder have one order by name and by path.
abbrev pub as_etc : Source → Source
as_etc s = record { name = byte "/" ∷ s.name; bytes = s.bytes }

-- the text files that a path means, as `check` reads them; standard input isn't read
abbrev pub AreSideFiles : (path : List ℕ) → Contents → List Source → Type 0
AreSideFiles path contents sources = AreNamedFiles (path ∷ []) (Some []) contents sources

-- ---- errors
-- the words of a folder that is no side: it has no text files, where they were looked for, and what may be named in place of it
abbrev pub no_texts_text : (path : List ℕ) → List ℕ
no_texts_text path =
    (codes "cannot read " ++ shown_name path)
    ++ codes ": no text file is in it, nor in its etc/udev/hwdb.d or usr/lib/udev/hwdb.d: name a folder that has one, a text file or a database"

-- What an error says of a folder that is listed, and of a file that is read, is a parameter.
module _ (OfListing OfReading : Refusal → Type 0) where
  -- a folder has too many text files, or the first that can't be read gives the error, or they can't be compiled
  abbrev pub AreNotMadeAt : (path : List ℕ) → Contents → Refusal → Type 0
  AreNotMadeAt path contents refusal =
      AreTooMany contents path refusal
      ⊎ (((paths : List (List ℕ)) × StandFor contents (path ∷ []) paths × IsGivenUnread paths refusal × IsOfFiles paths contents refusal × OfReading refusal)
      ⊎ ((sources : List Source) × AreSideFiles path contents sources × IsNotCompiled (map as_etc sources) [] refusal))

  -- the text files of a root can't be read, or not be compiled
  abbrev pub IsRootUnmade : (path : List ℕ) → Contents → Refusal → Type 0
  IsRootUnmade path contents refusal =
      ((is_file contents path ≡ false) × AreUnread (folder_of path) contents refusal × OfListing refusal)
      ⊎ (IsKind Root path contents × AreNotMade (folder_of path) contents refusal)

  -- a side can't be had: what is in a folder isn't known, or by its kind; of a folder without text files it never can
  abbrev pub IsSideRefused : (path : List ℕ) → Contents → Refusal → Type 0
  IsSideRefused path contents refusal =
      (IsUnlistedFolder contents (folder_of path) refusal × OfListing refusal)
      ⊎ ((IsKind Database path contents × IsUnreadAt contents path refusal × OfReading refusal)
      ⊎ ((IsKind Texts path contents × AreNotMadeAt path contents refusal)
      ⊎ (IsRootUnmade path contents refusal ⊎ (IsKind Empty path contents × IsInWords (no_texts_text path) refusal))))
