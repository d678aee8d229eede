-- What the types of this crate mean: files and faults as contracts see them, and when each error comes.
use Rattle.std.specs.Prelude.{List, map, length, ℕ, ◌<◌, ◌≤◌, ◌≡◌, All}
use Rattle.std.specs.String.{string_bytes}
use Rattle.hwdb_spec.specs.Folders.{Source, FaultIn, contents, fault_in, chosen_of, max_files, max_lines}
use Rattle.hwdb_spec.specs.Lines.{lines}
use Rattle.hwdb_text.specs.Views.{bytes_in, choice_in}
use Rattle.hwdb_compile.specs.declared.sources.SourceFile.{SourceFile}
use Rattle.hwdb_text.specs.declared.choice.ChosenFile.{ChosenFile}
use Rattle.hwdb_compile.specs.declared.sources.FileFault.{FileFault}

abbrev pub source_of : SourceFile → Source
source_of f = record { name = string_bytes f.name; bytes = f.bytes.items }

abbrev pub sources : List SourceFile → List Source
sources files = map source_of files

abbrev pub fault_of : FileFault → FaultIn
fault_of f = fault_in f.path.items f.fault

-- the name of a file
abbrev pub name_of : Source → List ℕ
name_of s = s.name

-- the files are the chosen ones of two folders, by priority, each with what it holds
pub record AreChosenOf (etc usr : List Source) (files : List ChosenFile) : Type 0 where
  pub few : length (chosen_of etc usr) ≤ max_files
  pub choices : map choice_in files ≡ chosen_of etc usr
  pub bytes : All (λ f. bytes_in f ≡ contents etc usr (choice_in f)) files

-- it holds for any two folders whose chosen files these are
abbrev pub ForFolders : List ChosenFile → (List Source → List Source → Type 0) → Type 0
ForFolders files Holds = (etc usr : List Source) → AreChosenOf etc usr files → Holds etc usr

-- a file with as many lines as can be numbered
abbrev pub FewLines : List ℕ → Type 0
FewLines bytes = length (lines bytes) ≤ max_lines

-- a file with more
abbrev pub ManyLines : List ℕ → Type 0
ManyLines bytes = max_lines < length (lines bytes)
