-- What an update and a query after it say together, and that the order of a listing doesn't matter. Our choice.
use Rattle.std.specs.Prelude.{◌≡◌, ℕ, Bool, false, List, [], ◌∷◌, Option, Some, None, map}
use Rattle.hwdb_spec.specs.Assignment.{Assignment}
use Rattle.hwdb_spec.specs.Answers.{effective_of}
use Rattle.hwdb_spec.specs.Folders.{Choice, Source, all_assignments, choice, chosen_of, contents, lists}
use Rattle.hwdb_spec.specs.Last.{AreLast}
use Rattle.hwdb_spec.specs.Store.{Contents, path_in, database_name, database_file}
use Rattle.hwdb_spec.specs.System.{AreFilesIn, AreNamesIn, database_folder, etc_files, usr_files}
use Rattle.hwdb_spec.specs.Texts.{properties_text, queries_text}
use Rattle.hwdb_spec_commands.specs.Databases.{IsTextOf}
use Rattle.hwdb_spec_commands.specs.Asked.{IsAnswered}
use Rattle.hwdb_spec_commands.specs.Done.{IsUpdated}

-- The text is for each key the value of the last assignment. Of those that the text files of both folders have, it is the
-- last of each pattern and key whose pattern matches the device.
pub record IsOfLast (root : List ℕ) (contents : Contents) (device text : List ℕ) : Type 0 where
  pub of_etc : List Source
  pub of_usr : List Source
  pub in_etc : AreFilesIn (etc_files root) contents of_etc
  pub in_usr : AreFilesIn (usr_files root) contents of_usr
  pub last : List Assignment
  pub are_last : AreLast device None (all_assignments of_etc of_usr) last
  pub is : text ≡ properties_text (effective_of last)

-- A query of a device, if the database of an update is in its place in /etc. Its text is what the files assign last that the update
-- read.
abbrev pub UpdateThenQuery : Type 0
UpdateThenQuery =
    (root : List ℕ) (verbose strict : Bool) (status : ℕ) (files new : Contents) (err_before err_now : Option (List ℕ)) (device text : List ℕ)
    → IsUpdated root verbose strict status files err_before err_now (λ database. new (path_in (database_folder false root) database_name) ≡ Some (database_file database))
    → IsAnswered root (IsTextOf (queries_text (device ∷ []))) new text
    → IsOfLast root files device text

-- ---- listings
-- two readings of both folders are one: which names each folder has, which files are chosen, and what each of them holds
pub record IsOneReading (etc usr etc2 usr2 : List Source) : Type 0 where
  pub named : (name : List ℕ) → lists name (map (λ (s : Source). s.name) usr) ≡ lists name (map (λ (s : Source). s.name) usr2)
  pub chosen : chosen_of etc usr ≡ chosen_of etc2 usr2
  pub held : (c : Choice) → contents etc usr c ≡ contents etc2 usr2 c

-- the order of a listing doesn't matter, and it leaves nothing out
abbrev pub ListingsGiveOneReading : Type 0
ListingsGiveOneReading = (root : List ℕ) (files : Contents) (etc usr etc2 usr2 : List Source)
    → AreFilesIn (etc_files root) files etc → AreFilesIn (usr_files root) files usr
    → AreFilesIn (etc_files root) files etc2 → AreFilesIn (usr_files root) files usr2
    → IsOneReading etc usr etc2 usr2

abbrev pub ListingsGiveOneChoice : Type 0
ListingsGiveOneChoice = (root : List ℕ) (files : Contents) (etc usr etc2 usr2 : List (List ℕ))
    → AreNamesIn (etc_files root) files etc → AreNamesIn (usr_files root) files usr
    → AreNamesIn (etc_files root) files etc2 → AreNamesIn (usr_files root) files usr2
    → choice etc usr ≡ choice etc2 usr2
