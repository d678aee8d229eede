-- What is counted of assignments.
use Rattle.std.specs.Prelude.{List, Option, None, Some, IfSome, [], ◌∷◌, ◌++◌, ℕ, map, ◌+◌, ◌≡◌, if◌then◌else◌}
use Rattle.hwdb_spec_commands.specs.Differences.{Change}
use Rattle.hwdb_spec.specs.Folders.{same}
use Rattle.hwdb_spec_commands.specs.Status.{first_text}
use Rattle.hwdb_reader.specs.Unread.{file_of, text_of}
use Rattle.hwdb_reader.specs.declared.unread.StoredText.{StoredText}
use Rattle.hwdb_databases.specs.declared.inventory.Inventory.{Inventory}

-- one, if a text isn't the one before it
abbrev pub one_more : Option (List ℕ) → List ℕ → ℕ
one_more None text = 1
one_more (Some last) text = if same text last then 0 else 1

-- how often a text isn't the one before it
abbrev pub turns : Option (List ℕ) → List (List ℕ) → ℕ
turns last [] = 0
turns last (text ∷ more) = turns (Some text) more + one_more last text

-- the line that was kept first, or else that of the first of some changes
abbrev pub first_kept : (kept : List ℕ) → List Change → List ℕ
first_kept [] changes = first_text changes
first_kept (b ∷ more) changes = b ∷ more

-- the file of the last assignment that was counted, if one was
abbrev pub last_file : Option StoredText → List (List ℕ)
last_file None = []
last_file (Some path) = text_of path ∷ []

-- the files of those that were counted
abbrev pub files_in : Inventory → List (List ℕ)
files_in h = map (λ t. t.now) h.files.items ++ last_file h.last

-- the last file is named by the database with these bytes
abbrev pub IsHeldFrom : List ℕ → Inventory → Type 0
IsHeldFrom file h = IfSome h.last (λ path. file_of path ≡ file)
