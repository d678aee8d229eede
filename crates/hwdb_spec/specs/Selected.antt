-- Which text files of two folders are read, and what each holds. Our choice.
use Rattle.std.specs.Prelude.{List, ℕ, length, ◌≡◌, ◌≤◌, Contains, if◌then◌else◌, All, true, is_some, ◌++◌, Some, map}
use Rattle.hwdb_spec.specs.Folders.{Choice, path_of, choice, names, max_files}
use Rattle.hwdb_spec.specs.Store.{Contents}
use Rattle.hwdb_spec.specs.Texts.{max_file}
use Rattle.hwdb_spec.specs.System.{AreNamesIn, bytes_at, etc_files, usr_files}

-- a chosen file is in the folder that it is taken from
abbrev pub IsListed : (etc usr : List (List ℕ)) → Choice → Type 0
IsListed etc usr c = Contains (if c.from_etc then etc else usr) c.name

-- the texts are what is read of the chosen files below a root
abbrev pub AreTexts : (root : List ℕ) (contents : Contents) → List Choice → (texts : List (List ℕ)) → Type 0
AreTexts root contents chosen texts = map Some texts ≡ map (λ c. bytes_at contents (root ++ path_of c)) chosen

-- what is under a path of the part is there in the whole
abbrev pub IsPartOf : (whole part : Contents) → Type 0
IsPartOf whole part = (path : List ℕ) → is_some (bytes_at part path) ≡ true → bytes_at part path ≡ bytes_at whole path

-- the names of the text files of both folders, among some of all files
pub record AreNamed (root : List ℕ) (all files : Contents) (etc usr : List (List ℕ)) : Type 0 where
  pub part : IsPartOf all files
  pub in_etc : AreNamesIn (etc_files root) files etc
  pub in_usr : AreNamesIn (usr_files root) files usr

-- the chosen of the folders' text files, and what each holds, no longer than a file may be; `usr` are the names in /usr/lib
pub record AreSelected (root : List ℕ) (contents : Contents) (usr : List (List ℕ)) (chosen : List Choice) (texts : List (List ℕ)) : Type 0 where
  pub etc : List (List ℕ)
  pub in_etc : AreNamesIn (etc_files root) contents etc
  pub in_usr : AreNamesIn (usr_files root) contents usr
  pub is : chosen ≡ choice etc usr
  pub few : length (names etc usr) ≤ max_files
  pub listed : All (IsListed etc usr) chosen
  pub read : AreTexts root contents chosen texts
  pub within : All (λ (t : List ℕ). length t ≤ max_file) texts
