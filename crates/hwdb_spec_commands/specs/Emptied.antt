-- What `update` says if there are no text files, so that the new database is empty: whether it replaces or hides one that assigns
-- something, and how to get that back. Our choice.
use Rattle.std.specs.Prelude.{◌++◌, ◌∷◌, ◌≡◌, ◌≤◌, ◌⊎◌, [], Bool, IfSome, List, None, Option, Some, codes, false, if◌then◌else◌, length, true, ℕ}
use Rattle.hwdb_spec_commands.specs.Asked.{database_path}
use Rattle.hwdb_spec_commands.specs.Commands.{removing_words, update_words}
use Rattle.hwdb_spec.specs.Format.{IsDatabase}
use Rattle.hwdb_spec.specs.Lines.{byte}
use Rattle.hwdb_spec.specs.Tree.{Tree, members_under}
use Rattle.hwdb_spec.specs.Visible.{shown_name}

-- the bytes are a database that assigns nothing
abbrev pub AssignNothing : (bytes : List ℕ) → Type 0
AssignNothing bytes = (t : Tree) × IsDatabase bytes t × (members_under [] t ≡ [])

-- Whether something is lost if bytes that there may be are replaced or hidden: not if there are none, or if they are such a database.
-- Bytes that are no database for us may be one for another tool.
abbrev pub IsLost : Option (List ℕ) → (lost : Bool) → Type 0
IsLost None lost = lost ≡ false
IsLost (Some bytes) false = AssignNothing bytes
IsLost (Some bytes) true = AssignNothing bytes → ⊥

-- what is said of a database that is replaced by an empty one
abbrev pub emptied_words : (root : List ℕ) (usr : Bool) → List ℕ
emptied_words root usr =
    database_path usr root ++ (codes " becomes empty: there are no text files. Bring them back, and then run: " ++ update_words usr root)

-- what is said of a database of /usr/lib that an empty one hides
abbrev pub hidden_words : (root : List ℕ) → List ℕ
hidden_words root =
    database_path false root
    ++ (codes " is empty and hides " ++ (database_path true root ++ (codes ": there are no text files. To use that one, run: " ++ removing_words root)))

-- what is said as a line, in which names are shown
abbrev pub loss_line : (words : List ℕ) → List ℕ
loss_line words = shown_name words ++ byte "\n" ∷ []

-- the line if it is to be said
abbrev pub line_if : Bool → (words : List ℕ) → List ℕ
line_if said words = if said then loss_line words else []

-- The lines of what is lost, by whether /etc's and /usr/lib's are: a new one of /etc hides that of /usr/lib.
abbrev pub loss_text : (root : List ℕ) (usr etc_lost usr_lost : Bool) → List ℕ
loss_text root true etc_lost usr_lost = line_if usr_lost (emptied_words root true)
loss_text root false etc_lost usr_lost = line_if etc_lost (emptied_words root false) ++ line_if usr_lost (hidden_words root)
