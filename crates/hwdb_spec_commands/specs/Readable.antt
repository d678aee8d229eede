-- An update of the text files that can be read: the others are left out with `--skip-unreadable`, which standard error is told
-- first. What it leaves, and its errors. Our choice.
use Rattle.std.specs.Prelude.{◌++◌, All, List, ℕ}
use Rattle.hwdb_spec.specs.Folders.{Choice, choice, path_of}
use Rattle.hwdb_spec.specs.Store.{Contents}
use Rattle.hwdb_spec.specs.System.{AreNamesIn, etc_files, usr_files}
use Rattle.hwdb_spec_commands.specs.Reading.{IsText}

-- the chosen text files of both folders are there, and none is longer than a file may be
pub record AreAllRead (root : List ℕ) (contents : Contents) : Type 0 where
  pub etc : List (List ℕ)
  pub usr : List (List ℕ)
  pub in_etc : AreNamesIn (etc_files root) contents etc
  pub in_usr : AreNamesIn (usr_files root) contents usr
  pub read : All (λ (c : Choice). IsText contents (root ++ path_of c)) (choice etc usr)
