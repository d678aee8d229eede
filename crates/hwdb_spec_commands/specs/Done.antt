-- What `update` and `ask` leave that are done, and what a crash leaves during an update (systemd-hwdb(8); `ask` is our choice).
use Rattle.std.specs.Io.KnownBytes.{Appends}
use Rattle.std.specs.Prelude.{◌≡◌, ◌≤◌, ◌⊎◌, Bool, List, Option, Some, [], length, ℕ}
use Rattle.hwdb_spec_commands.specs.Databases.{IsTextOf}
use Rattle.hwdb_spec.specs.Folders.{AreAccepted, Choice, Source, faults_of_files}
use Rattle.hwdb_spec_commands.specs.LeftOut.{AreLeftOut, without}
use Rattle.hwdb_spec_commands.specs.LoneFile.{lone}
use Rattle.hwdb_spec.specs.Outputs.{Texts}
use Rattle.hwdb_spec_commands.specs.Progress.{listing, update_text}
use Rattle.hwdb_spec.specs.Store.{Contents, LeftAtParts, Outcomes, Stored, database_file, database_name, path_in}
use Rattle.hwdb_spec_commands.specs.Summary.{depth}
use Rattle.hwdb_spec.specs.System.{AreFilesIn, database_folder, etc_files, usr_files}
use Rattle.hwdb_spec.specs.Texts.{faults_text_at, max_file, query_text, status_of}
use Rattle.hwdb_spec.specs.Tree.{map_of_files}
use Rattle.hwdb_spec.specs.Written.{IsCompiled, IsWritten}

-- The files are accepted, and their database is in its place. `err` took what is said of them, with the names of /usr/lib's
-- files if they are given.
pub record Updated (etc usr : List Source) (listed : Option (List (List ℕ))) (max_bytes : ℕ) (strict : Bool) (status : ℕ) (err_before err_now : Option (List ℕ)) (in_place : List ℕ → Type 0) : Type 0 where
  pub accepted : AreAccepted etc usr
  pub database : List ℕ
  pub written : IsWritten (map_of_files etc usr) database
  pub compiled : IsCompiled etc usr database
  pub within : length database ≤ max_bytes
  pub told : Appends err_before err_now (update_text listed etc usr (depth compiled.0))
  pub stored : in_place database
  pub answer : status ≡ status_of strict (faults_of_files etc usr)

-- what `ask` writes: the fault lines of the one file, and the properties that its database gives the device. The database isn't
-- larger than one may be.
pub record AreAskTexts (file bytes device : List ℕ) (texts : Texts) : Type 0 where
  pub accepted : AreAccepted (lone bytes) []
  pub database : List ℕ
  pub written : IsWritten (map_of_files (lone bytes) []) database
  pub within : length database ≤ max_file
  pub faults : texts.err ≡ faults_text_at file (faults_of_files (lone bytes) [])
  pub properties : IsTextOf (query_text device) database texts.out

-- A crash leaves under each path what it might have left before. Besides, it may leave the written form of the files' map in the
-- database's place, and something under the path of a new file.
abbrev pub OldOrWritten : (etc usr : List Source) (folder : List ℕ) (old : Contents) (outcomes : Outcomes) → Outcomes
OldOrWritten etc usr folder old outcomes p v =
    outcomes p v ⊎ (((database : List ℕ) × IsWritten (map_of_files etc usr) database × IsCompiled etc usr database × (p ≡ path_in folder database_name) × (v ≡ Some (database_file database))) ⊎ LeftAtParts folder old p v)

-- The text files of both folders below the root are accepted, and their database is in its place. Standard error took what is said
-- of them.
pub record IsUpdated (root : List ℕ) (verbose strict : Bool) (status : ℕ) (old : Contents) (err_before err_now : Option (List ℕ)) (in_place : List ℕ → Type 0) : Type 0 where
  pub of_etc : List Source
  pub of_usr : List Source
  pub in_etc : AreFilesIn (etc_files root) old of_etc
  pub in_usr : AreFilesIn (usr_files root) old of_usr
  pub updated : Updated of_etc of_usr (listing verbose of_usr) max_file strict status err_before err_now in_place

-- An update that read these files leaves this under a path. In its place it is the database of all text files of both folders,
-- whole. Under the path of a new file it is what may be there.
pub record IsLeftByUpdate (root : List ℕ) (usr : Bool) (files old : Contents) (p : List ℕ) (v : Option Stored) : Type 0 where
  pub of_etc : List Source
  pub of_usr : List Source
  pub in_etc : AreFilesIn (etc_files root) files of_etc
  pub in_usr : AreFilesIn (usr_files root) files of_usr
  pub left : ((database : List ℕ) × IsWritten (map_of_files of_etc of_usr) database × IsCompiled of_etc of_usr database
      × (p ≡ path_in (database_folder usr root) database_name) × (v ≡ Some (database_file database)))
      ⊎ LeftAtParts (database_folder usr root) old p v

-- what a crash may leave during an update of these files: what it might have left before, or what the update leaves
abbrev pub OldOrUpdated : (root : List ℕ) (usr : Bool) (files old : Contents) (outcomes : Outcomes) → Outcomes
OldOrUpdated root usr files old outcomes p v = outcomes p v ⊎ IsLeftByUpdate root usr files old p v

-- an update leaves this under a path, if it may have left files out
pub record IsLeftByUpdateLess (MayFail : (path : List ℕ) → Type 0) (root : List ℕ) (usr skip : Bool) (old : Contents) (p : List ℕ) (v : Option Stored) : Type 0 where
  pub left_out : List Choice
  pub are : AreLeftOut skip MayFail root old left_out
  pub left : IsLeftByUpdate root usr (without left_out root old) old p v

-- what a crash may leave during an update
abbrev pub OldOrUpdatedLess : (MayFail : (path : List ℕ) → Type 0) (root : List ℕ) (usr skip : Bool) (old : Contents) (outcomes : Outcomes) → Outcomes
OldOrUpdatedLess MayFail root usr skip old outcomes p v = outcomes p v ⊎ IsLeftByUpdateLess MayFail root usr skip old p v
