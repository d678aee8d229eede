-- A file system as the program sees it: the text files of a folder, and the database that is asked. Which folders these are
-- is systemd-hwdb(8)'s; that the database of /etc is asked before that of /usr/lib is libudev's.
use Rattle.std.specs.Prelude.{◌≡◌, ℕ, List, Option, Some, Bool, true, false, if◌then◌else◌, ◌++◌, codes, map, option_map, is_some, All, Contains}
use Rattle.std.specs.Option.{option_or}
use Rattle.hwdb_spec.specs.Lines.{has}
use Rattle.hwdb_spec.specs.Folders.{Source, counts}
use Rattle.hwdb_spec.specs.Store.{Stored, Contents, path_in, database_name}

-- the bytes that a read of a path gives, if something is there
abbrev pub bytes_at : Contents → (path : List ℕ) → Option (List ℕ)
bytes_at contents path = option_map (λ (f : Stored). f.bytes) (contents path)

-- a text file with this name is in the folder: the name counts, has no slash (byte 47), and something is there
pub record IsNameIn (folder : List ℕ) (contents : Contents) (name : List ℕ) : Type 0 where
  pub counts : counts name ≡ true
  pub plain : has 47 name ≡ false
  pub there : is_some (bytes_at contents (path_in folder name)) ≡ true

-- these are the names of the folder's text files, in some order
pub record AreNamesIn (folder : List ℕ) (contents : Contents) (names : List (List ℕ)) : Type 0 where
  pub each : All (IsNameIn folder contents) names
  pub all : (name : List ℕ) → IsNameIn folder contents name → Contains names name

-- these are the folder's text files, in some order, each with what it holds
pub record AreFilesIn (folder : List ℕ) (contents : Contents) (files : List Source) : Type 0 where
  pub names : AreNamesIn folder contents (map (λ (s : Source). s.name) files)
  pub bytes : All (λ (s : Source). bytes_at contents (path_in folder s.name) ≡ Some s.bytes) files

-- the folder of the text files of /etc, below a root (systemd-hwdb(8))
abbrev pub etc_files : (root : List ℕ) → List ℕ
etc_files root = root ++ codes "/etc/udev/hwdb.d"

-- the folder of the text files of /usr/lib, below a root (systemd-hwdb(8))
abbrev pub usr_files : (root : List ℕ) → List ℕ
usr_files root = root ++ codes "/usr/lib/udev/hwdb.d"

-- the folder of a database below a root: that of /usr/lib, or that of /etc (systemd-hwdb(8))
abbrev pub database_folder : (usr : Bool) (root : List ℕ) → List ℕ
database_folder usr root = root ++ (if usr then codes "/usr/lib/udev" else codes "/etc/udev")

-- the database below a root that is asked: /etc's, or, if nothing is there, that of /usr/lib (libudev's order)
abbrev pub asked_database : (root : List ℕ) → Contents → Option (List ℕ)
asked_database root contents =
    option_or (bytes_at contents (path_in (database_folder false root) database_name)) (bytes_at contents (path_in (database_folder true root) database_name))
