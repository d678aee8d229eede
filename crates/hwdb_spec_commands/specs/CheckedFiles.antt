-- Which text files `check` reads, and what it prints. Our choice.
use Rattle.std.specs.Prelude.{◌++◌, ◌==◌, ◌∷◌, ◌≡◌, ◌≤◌, All, Bool, IfSome, List, None, Ok, Option, Some, [], false, if◌then◌else◌, is_some, length, map, true, ℕ}
use Rattle.hwdb_spec_commands.specs.Baselines.{marks_in}
use Rattle.hwdb_spec_commands.specs.Checks.{named}
use Rattle.hwdb_spec.specs.Folders.{Choice, Source, choice, max_files, names, path_of}
use Rattle.hwdb_spec_commands.specs.Given.{IsGiven, is_dash}
use Rattle.hwdb_spec.specs.Lines.{byte}
use Rattle.hwdb_spec.specs.Outputs.{Texts}
use Rattle.hwdb_spec_commands.specs.Patches.{said_err, said_out, said_status}
use Rattle.hwdb_spec.specs.Store.{Contents, path_in}
use Rattle.hwdb_spec.specs.System.{AreNamesIn, bytes_at, etc_files, usr_files}
use Rattle.hwdb_spec.specs.Texts.{max_file}
use Rattle.hwdb_spec_commands.specs.declared.formats.Format.{Format}

-- These are the chosen of both folders' text files below the root, by priority. Each has its stored path, as `update` names
-- it, and what it holds. None is longer than a file may be.
pub record AreChosenFiles (root : List ℕ) (contents : Contents) (sources : List Source) : Type 0 where
  pub etc : List (List ℕ)
  pub usr : List (List ℕ)
  pub in_etc : AreNamesIn (etc_files root) contents etc
  pub in_usr : AreNamesIn (usr_files root) contents usr
  pub few : length (names etc usr) ≤ max_files
  pub named : map (λ (s : Source). s.name) sources ≡ map path_of (choice etc usr)
  pub held : map (λ (s : Source). Some s.bytes) sources ≡ map (λ c. bytes_at contents (root ++ path_of c)) (choice etc usr)
  pub within : All (λ (s : Source). length s.bytes ≤ max_file) sources

-- these are the files with the given paths, in their order, each with what it has, which isn't longer than a file may be
pub record AreGivenFiles (paths : List (List ℕ)) (input : Option (List ℕ)) (contents : Contents) (sources : List Source) : Type 0 where
  pub named : map (λ (s : Source). s.name) sources ≡ paths
  pub held : All (λ (s : Source). IsGiven s.name input contents s.bytes) sources
  pub within : All (λ (s : Source). length s.bytes ≤ max_file) sources

-- the folder that a path names: without a slash at its end
unfoldable pub folder_of : (path : List ℕ) → List ℕ
folder_of [] = []
folder_of (b ∷ []) = if b == byte "/" then [] else b ∷ []
folder_of (b ∷ next ∷ more) = b ∷ folder_of (next ∷ more)

-- The text files of the folder that a path names, chosen as those of one folder: by name, each once. It is the path
-- itself if there are no names.
abbrev pub files_in : (path : List ℕ) (names : List (List ℕ)) → List (List ℕ)
files_in path [] = path ∷ []
files_in path (name ∷ more) = map (λ (c : Choice). path_in (folder_of path) c.name) (choice (name ∷ more) [])

-- whether a path stands for standard input, or for a file that is there
abbrev pub is_file : Contents → (path : List ℕ) → Bool
is_file contents path = if is_dash path then true else is_some (bytes_at contents (folder_of path))

-- a path stands for these text files: itself if it is a file, else those of its folder, at most 65,535
abbrev pub StandsFor : (is_file : Bool) → Contents → (path : List ℕ) (paths : List (List ℕ)) → Type 0
StandsFor true contents path paths = paths ≡ path ∷ []
StandsFor false contents path paths =
    (found : List (List ℕ)) × AreNamesIn (folder_of path) contents found × (length (names found []) ≤ max_files) × (paths ≡ files_in path found)

-- given paths stand for these text files, in their order
abbrev pub StandFor : Contents → (given paths : List (List ℕ)) → Type 0
StandFor contents [] paths = paths ≡ []
StandFor contents (path ∷ more) paths =
    (own rest : List (List ℕ)) × (paths ≡ own ++ rest)
    × StandsFor (is_file contents path) contents path own × StandFor contents more rest

-- these are the files that the given paths mean, each with what it has
abbrev pub AreNamedFiles : (given : List (List ℕ)) (input : Option (List ℕ)) → Contents → List Source → Type 0
AreNamedFiles given input contents sources = (paths : List (List ℕ)) × StandFor contents given paths × AreGivenFiles paths input contents sources

-- The texts are what is said of such files, in this format, but for kinds that are allowed and findings that are known. The status says whether
-- something is wrong with one, or can be mended. Standard input may have a name.
pub record IsChecked (Are : List Source → Type 0) (format : Format) (strict : Bool) (allowed known : List (List ℕ)) (name : Option (List ℕ)) (texts : Texts) (status : ℕ) : Type 0 where
  pub sources : List Source
  pub are : Are sources
  pub out : texts.out ≡ said_out format allowed known (map (named name) sources)
  pub err : texts.err ≡ said_err format allowed (map (named name) sources)
  pub says : status ≡ said_status format strict allowed known (map (named name) sources)
