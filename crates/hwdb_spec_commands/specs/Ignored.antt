-- What is in a folder of text files and is none of them, since its name doesn't count. hwdb(7) has the ending, `.hwdb`. That a name
-- which begins with `.` isn't told is our choice: who made it hid it.
use Rattle.std.specs.Prelude.{◌≡◌, All, Bool, Contains, List, false, if◌then◌else◌, is_some, not, true, ℕ}
use Rattle.hwdb_spec.specs.Folders.{counts}
use Rattle.hwdb_spec.specs.Lines.{begins_with, byte, has}
use Rattle.hwdb_spec.specs.Store.{Contents, path_in}
use Rattle.hwdb_spec.specs.System.{bytes_at, etc_files, usr_files}

-- a folder of text files below a root: that of /usr/lib, or that of /etc
abbrev pub text_folder : (usr : Bool) (root : List ℕ) → List ℕ
text_folder usr root = if usr then usr_files root else etc_files root

-- a name that doesn't count, though it doesn't begin with `.`
abbrev pub is_ignored : List ℕ → Bool
is_ignored name = if counts name then false else not (begins_with (byte ".") name)

-- a file with such a name is in the folder: the name has no slash (byte 47), and something is there
pub record IsIgnoredIn (folder : List ℕ) (contents : Contents) (name : List ℕ) : Type 0 where
  pub ignored : is_ignored name ≡ true
  pub plain : has 47 name ≡ false
  pub there : is_some (bytes_at contents (path_in folder name)) ≡ true

-- these are the names of the folder's ignored files, in some order
pub record AreIgnoredIn (folder : List ℕ) (contents : Contents) (names : List (List ℕ)) : Type 0 where
  pub each : All (IsIgnoredIn folder contents) names
  pub all : (name : List ℕ) → IsIgnoredIn folder contents name → Contains names name
