-- What holds of the definitions, in words of their own.
use Rattle.std.specs.Prelude.{List, [], ◌∷◌, ◌≡◌, ◌≤◌, Bool, if◌then◌else◌, ℕ, length, Option, Some, None}
use Rattle.std.specs.List.{list_any}
use Rattle.hwdb_spec.specs.Folders.{same}
use Rattle.hwdb_rulefiles.specs.RuleText.{first_rows, rows}
use Rattle.hwdb_rulefiles.specs.Escapes.{first_pieces, unescaped}
use Rattle.hwdb_rulefiles.specs.RuleFiles.{Parsed, nothing, parsed}
use Rattle.hwdb_rulefiles.specs.RuleFolders.{Chosen, counts, choice}
use Rattle.hwdb_rulefiles.specs.declared.choice.Folder.{Folder}
use Rattle.hwdb_rulefiles.specs.declared.choice.Folder.TheVariants.{Etc, Run, Local, Usr}

-- whether a folder has a file of this name
abbrev pub has_name : (name : List ℕ) → List (List ℕ) → Bool
has_name name names = list_any (same name) names

-- the first of the folders that has one
abbrev pub first_folder : (etc run local usr : List (List ℕ)) → (name : List ℕ) → Option Folder
first_folder etc run local usr name =
    if has_name name etc then Some Etc
    else (if has_name name run then Some Run else (if has_name name local then Some Local else (if has_name name usr then Some Usr else None)))

-- the folder of the first chosen file of this name
abbrev pub folder_of : (name : List ℕ) → List Chosen → Option Folder
folder_of name [] = None
folder_of name (c ∷ more) = if same name c.name then Some c.folder else folder_of name more

-- A name is taken from the first folder that has it. One that doesn't count isn't taken.
abbrev pub FirstFolderCounts : Type 0
FirstFolderCounts =
    (etc run local usr : List (List ℕ)) (name : List ℕ)
    → folder_of name (choice etc run local usr) ≡ (if counts name then first_folder etc run local usr name else None)

-- what a system's file of a name says, if its folder's file has this content
abbrev pub said_from : (content : Folder → List ℕ → List ℕ) → (name : List ℕ) → Option Folder → Parsed
said_from content name None = nothing
said_from content name (Some f) = parsed (content f name)

abbrev pub said : (content : Folder → List ℕ → List ℕ) → List Chosen → (name : List ℕ) → Parsed
said content chosen name = said_from content name (folder_of name chosen)

-- An empty file masks those of its name in later folders: nothing is said by them. A file that leads to /dev/null is empty.
abbrev pub EmptyFileMasks : Type 0
EmptyFileMasks =
    (etc run local usr : List (List ℕ)) (content : Folder → List ℕ → List ℕ) (name : List ℕ) (f : Folder)
    → first_folder etc run local usr name ≡ Some f → content f name ≡ [] → said content (choice etc run local usr) name ≡ nothing

-- A file has no more rows than bytes, and a text no more pieces: to look for more of them changes nothing.
pub record MoreChangesNothing : Type 0 where
  pub file_rows : (most : ℕ) (file : List ℕ) → length file ≤ most → first_rows most file ≡ rows file
  pub pieces : (most : ℕ) (text : List ℕ) → length text ≤ most → first_pieces most text ≡ unescaped text
