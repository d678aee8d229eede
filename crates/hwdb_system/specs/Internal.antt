-- What the steps of an update hold, and what a store in memory answers.
use Rattle.std.specs.Prelude.{IsUtf8, ◌≡◌, ◌⊎◌, ◌+◌, ◌==◌, ℕ, Bool, false, if◌then◌else◌, not, true, ◌||◌, is_some, List, [], ◌∷◌, ◌++◌, Option, Some, None, codes, drop, filter_map, length, option_and_then}
use Rattle.std.specs.Str.{bytes_eq}
use Rattle.std.specs.Borrow.{Bor}
use Rattle.std.specs.BTreeSet.{BTreeSet}
use Rattle.std.specs.List.{list_any}
use Rattle.hwdb_spec.specs.Folders.{names, counts, lists, same}
use Rattle.hwdb_spec_commands.specs.Ignored.{is_ignored}
use Rattle.hwdb_spec.specs.Lines.{has}
use Rattle.hwdb_spec.specs.Store.{Contents, path_in}
use Rattle.hwdb_spec.specs.Texts.{at_offset}
use Rattle.hwdb_spec.specs.System.{bytes_at}
use Rattle.hwdb_spec.specs.declared.errors.ToolError.TheVariants.{Memory, Read}
use Rattle.hwdb_replace.specs.Memory.{seen_of}
use Rattle.hwdb_replace.specs.declared.memory.Step.{Step}
use Rattle.hwdb_replace.specs.declared.memory.Step.TheVariants.{Changed, Moved}
use Rattle.hwdb_spec_commands.specs.declared.refusals.Refusal.TheVariants.{At, Plain}
use Rattle.hwdb_spec_commands.specs.declared.refusals.Refusal.{Refusal}
use Rattle.hwdb_spec.specs.Visible.{shown_name}

-- what a read gives after some steps of a store in memory
abbrev pub bytes_after : List Step → (path : List ℕ) → Option (List ℕ)
bytes_after steps = bytes_at (seen_of steps)

-- the path under which a step puts a file
abbrev pub made_by : Step → Option (List ℕ)
made_by (Changed path file) = Some path.items
made_by (Moved from to file loose) = Some to.items
made_by _ = None

-- the path is that of a name that isn't UTF-8
abbrev pub IsMisnamed : (path : List ℕ) → Type 0
IsMisnamed path = (folder name : List ℕ) × (path ≡ path_in folder name) × (IsUtf8 name → ⊥)

-- an error that says so, or one of memory
abbrev pub IsOfName : Refusal → Type 0
IsOfName (At Read at cause) = IsMisnamed at.items
IsOfName (Plain Memory) = Unit {0}
IsOfName _ = ⊥

-- one of the steps puts a file under the path
abbrev pub IsMade : List Step → (path : List ℕ) → Type 0
IsMade [] path = ⊥
IsMade (x ∷ steps) path = (made_by x ≡ Some path) ⊎ IsMade steps path

-- a name is one of those that are told: of ignored files, or of text files
abbrev pub is_told : (ignored : Bool) (name : List ℕ) → Bool
is_told ignored name = if ignored then is_ignored name else counts name

-- a file with such a name is in the folder
pub record IsToldIn (ignored : Bool) (folder : List ℕ) (contents : Contents) (name : List ℕ) : Type 0 where
  pub told : is_told ignored name ≡ true
  pub plain : has 47 name ≡ false
  pub there : is_some (bytes_at contents (path_in folder name)) ≡ true

-- after these steps a file with this name, one of those, is under the path
abbrev pub is_told_file : (ignored : Bool) → List Step → (name path : List ℕ) → Bool
is_told_file ignored steps name path = if not (is_told ignored name) || has 47 name then false else is_some (bytes_after steps path)

-- the name of a path in a folder, if it is one of it
abbrev pub name_in : (folder path : List ℕ) → Option (List ℕ)
name_in folder path =
    if bytes_eq path (path_in folder (drop (length folder + 1) path)) then Some (drop (length folder + 1) path) else None

-- the name that a step puts in a folder, if a file with it, one of those, is there after all steps
abbrev pub step_name : (ignored : Bool) → List Step → (folder : List ℕ) → Step → Option (List ℕ)
step_name ignored steps folder step =
    option_and_then (λ path. option_and_then (λ name. if is_told_file ignored steps name path then Some name else None) (name_in folder path)) (made_by step)

-- the names of a folder, as the steps put them there: a name that several put there is told as often
abbrev pub names_after : (ignored : Bool) → List Step → (folder : List ℕ) → List (List ℕ)
names_after ignored steps folder = filter_map (step_name ignored steps folder) steps

-- what a part of a line says: a text, or a name, as names are shown
abbrev pub said_part : (is_name : Bool) → List ℕ → List ℕ
said_part true part = shown_name part
said_part false part = part

-- what the parts of a line say, the first of which is at a place, and of which the one at `name` is a name
abbrev pub said_parts : (name at : ℕ) → List (Bor (List ℕ)) → List (List ℕ)
said_parts name at [] = []
said_parts name at (part ∷ parts) = said_part (at == name) part.now ∷ said_parts name (at + 1) parts

-- a fault of the database at a path: its name, its offset if it has one, the path, and what to do
abbrev pub line_at : (path name : List ℕ) → (offset : Option ℕ) → (what : List ℕ) → List ℕ
line_at path name offset what = codes "bad database: " ++ (at_offset name offset ++ (codes ": " ++ (shown_name path ++ (codes ": " ++ what))))

-- a set of these names
abbrev pub IsNameSet : (names : List (List ℕ)) → BTreeSet (Bor (List ℕ)) → Type 0
IsNameSet names set = (name : Bor (List ℕ)) → list_any (λ (k : Bor (List ℕ)). same name.now k.now) set.keys ≡ lists name.now names
