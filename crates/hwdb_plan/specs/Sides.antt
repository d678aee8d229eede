-- What a path of `diff` means, which is a side of it, as the front of a plan: a database, a text file, a folder of text files, or a root.
-- Of text files it is the database that `update` would write. Our choice.
use Rattle.std.specs.Prelude.{◌∷◌, ℕ, Bool, true, false, List, None, Option, Some, [], Result, codes, if◌then◌else◌, map, not}
use Rattle.hwdb_spec.specs.Errors.{refusal_of_compile}
use Rattle.hwdb_spec.specs.Folders.{Choice, Source}
use Rattle.hwdb_spec.specs.Texts.{max_file}
use Rattle.hwdb_spec_commands.specs.CheckedFiles.{folder_of}
use Rattle.hwdb_spec_commands.specs.Given.{is_dash}
use Rattle.hwdb_spec_commands.specs.Sides.{as_etc, names_text, no_texts_text}
use Rattle.hwdb_spec_commands.specs.Told.Stop.{Plain, Says}
use Rattle.hwdb_spec_commands.specs.declared.unread.Unread.{Unread}
use Rattle.hwdb_plan.specs.Asking.{if_read}
use Rattle.hwdb_plan.specs.Files.{read_files, source_at}
use Rattle.hwdb_plan.specs.Folders.{if_listed, texts_of_folders}
use Rattle.hwdb_plan.specs.GivenFolders.{if_few}
use Rattle.hwdb_plan.specs.Plans.{Plan}
use Rattle.hwdb_plan.specs.Plans.End.{Stops}
use Rattle.hwdb_plan.specs.Plans.Plan.{Compile, Done, Folder, Input}

-- ---- text files
-- what `update` would write of text files
abbrev pub made_of : (etc usr : List Source) → (List ℕ → Plan) → Plan
made_of etc usr next = Compile etc usr max_file (λ e. Plain (refusal_of_compile e)) next

-- the same of those with these paths, each as if it was in /etc/udev/hwdb.d; what a folder lists has to be a regular file
abbrev pub made_at : (path : List ℕ) (own : List (List ℕ)) → (List ℕ → Plan) → Plan
made_at path own next = read_files (path ∷ []) [] own [] (λ sources. made_of (map as_etc sources) [] next)

-- the same of a folder's own; without one it is no side
abbrev pub own_made : (path : List ℕ) (names : List (List ℕ)) → (List ℕ → Plan) → Plan
own_made path [] next = Done (Stops (Says (no_texts_text path)))
own_made path (name ∷ more) next = if_few path (name ∷ more) (λ own. made_at path own next)

-- a chosen file is taken from /etc, or from /usr/lib
abbrev pub is_from : (etc : Bool) → Choice → Bool
is_from true c = c.from_etc
is_from false c = not c.from_etc

-- those of chosen files that are, with their texts
unfoldable pub taken_from : (etc : Bool) → List Choice → (texts : List (List ℕ)) → List Source
taken_from etc [] texts = []
taken_from etc (c ∷ chosen) [] = []
taken_from etc (c ∷ chosen) (text ∷ texts) =
    if is_from etc c then source_at c.name text ∷ taken_from etc chosen texts else taken_from etc chosen texts

-- ---- the side
-- what `update` would write of a root's text files; a folder that has none of them is no root
abbrev pub root_made : (path : List ℕ) (names : List (List ℕ)) (chosen : List Choice) (texts : List (List ℕ)) → (List ℕ → Plan) → Plan
root_made path names [] texts next = own_made path names next
root_made path names (c ∷ chosen) texts next = made_of (taken_from true (c ∷ chosen) texts) (taken_from false (c ∷ chosen) texts) next

-- the bytes of a folder with these text files
abbrev pub folder_bytes : (path : List ℕ) (names : List (List ℕ)) → (List ℕ → Plan) → Plan
folder_bytes path names next = texts_of_folders (folder_of path) (λ texts. root_made path names texts.chosen texts.texts next)

-- the bytes of a file: a text file if it has the name of one, else a database
abbrev pub file_bytes : (path : List ℕ) → (List ℕ → Plan) → Plan
file_bytes path next = if names_text path then made_at path (path ∷ []) next else Input path (if_read path (λ at bytes. next bytes))

-- the same by what is told of a folder at the path
abbrev pub bytes_if : (path : List ℕ) (found : Option (List (List ℕ))) → (List ℕ → Plan) → Plan
bytes_if path None next = file_bytes path next
bytes_if path (Some names) next = folder_bytes path names next

-- the bytes of the side at a path that is no `-`
abbrev pub plain_side : (path : List ℕ) → (List ℕ → Plan) → Plan
plain_side path next = Folder (folder_of path) (if_listed (folder_of path) (λ found. bytes_if path found next))

-- those of the side that words name, as standard input is told: `-` is the database that it has left
abbrev pub side : (told : Result (List ℕ) Unread) (path : List ℕ) → (List ℕ → Plan) → Plan
side told path next = if is_dash path then if_read (codes "standard input") (λ at bytes. next bytes) told else plain_side path next
