-- What came, went and changed from one database to another: by pattern and key, what the two have there. And the lines
-- that `diff` prints of it. The command and its form are our choice.
use Rattle.std.specs.Prelude.{List, ℕ, Bool, true, false, Option, None, Some, [], ◌∷◌, ◌++◌, flat_map, if◌then◌else◌}
use Rattle.std.specs.FinMap as finite
use Rattle.hwdb_spec.specs.Assignment.{Assignment}
use Rattle.hwdb_spec.specs.Lines.{byte}
use Rattle.hwdb_spec.specs.Folders.{same, Source}
use Rattle.hwdb_spec.specs.Tree.{Map, Tree, map_of, map_of_files}
use Rattle.hwdb_spec.specs.Texts.{place_text}

-- An assignment that came or went, or an old one and a new one with one pattern and key and two values.
pub data Change : Type 0 where
  Came : Assignment → Change
  Went : Assignment → Change
  Changed : Assignment → Assignment → Change

-- what an old and a new assignment with one pattern and key are: a change if their values differ
abbrev pub change_between : Assignment → Assignment → List Change
change_between old new = if same old.value new.value then [] else Changed old new ∷ []

-- the change at a pattern and key, if there is one, by what the two maps have there
abbrev pub change_at : (old new : Option Assignment) → List Change
change_at None None = []
change_at None (Some new) = Came new ∷ []
change_at (Some old) None = Went old ∷ []
change_at (Some old) (Some new) = change_between old new

-- the entries of two maps, as one map
abbrev pub joined : Map → Map → Map
joined old new = finite.from_entries (finite.entries old ++ finite.entries new)

-- the patterns and keys that one of two maps has, by pattern and then by key
abbrev pub places : Map → Map → List (List ℕ × List ℕ)
places old new = finite.keys (joined old new)

-- the changes from an old map to a new one, by pattern and then by key
unfoldable pub differences : (old new : Map) → List Change
differences old new = flat_map (λ place. change_at (finite.get old place) (finite.get new place)) (places old new)

-- `KEY=VALUE`, a tab, and where it comes from: the path, `:`, the line
abbrev pub origin_text : Assignment → List ℕ
origin_text f = f.position.key ++ byte "=" ∷ (f.value ++ byte "\t" ∷ place_text f.path f.position.line)

-- the beginning of a line: its sign, a tab, the pattern, a tab, and an assignment
abbrev pub signed_text : ℕ → Assignment → List ℕ
signed_text sign f = sign ∷ byte "\t" ∷ (f.position.pattern ++ byte "\t" ∷ origin_text f)

-- The line of a change: `+` and what came, `-` and what went, or `~`, the old assignment, and after a tab the new one,
-- without the pattern.
abbrev pub change_text : Change → List ℕ
change_text (Came new) = signed_text (byte "+") new ++ byte "\n" ∷ []
change_text (Went old) = signed_text (byte "-") old ++ byte "\n" ∷ []
change_text (Changed old new) = signed_text (byte "~") old ++ byte "\t" ∷ (origin_text new ++ byte "\n" ∷ [])

-- a line for each change
abbrev pub changes_text : List Change → List ℕ
changes_text changes = flat_map change_text changes

-- whether there is a change
abbrev pub are_some : List Change → Bool
are_some [] = false
are_some (change ∷ more) = true

-- what `diff` prints of two databases
abbrev pub diff_text : (old new : Tree) → List ℕ
diff_text old new = changes_text (differences (map_of old) (map_of new))

-- whether two databases differ
abbrev pub differ : (old new : Tree) → Bool
differ old new = are_some (differences (map_of old) (map_of new))

-- what `diff` prints of the databases of an old state of two folders and of a new one
abbrev pub files_diff_text : (old_etc old_usr new_etc new_usr : List Source) → List ℕ
files_diff_text old_etc old_usr new_etc new_usr =
    changes_text (differences (map_of_files old_etc old_usr) (map_of_files new_etc new_usr))
