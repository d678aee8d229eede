-- The text files of both folders below a root, as the front of a plan. Which folders these are is systemd-hwdb(8)'s, which of their files
-- are chosen is hwdb(7)'s. The rest is our choice.
use Rattle.std.specs.Prelude.{ℕ, List, [], ◌++◌, ◌∷◌, Result, Ok, Err, if◌then◌else◌, length, map, nat_le}
use Rattle.hwdb_spec.specs.Folders.{Choice, choice, max_files, names, path_of}
use Rattle.hwdb_spec.specs.System.{etc_files, usr_files}
use Rattle.hwdb_spec_commands.specs.Told.{Unlisted, unlisted_stop}
use Rattle.hwdb_spec_commands.specs.Told.Stop.{Plain}
use Rattle.hwdb_spec.specs.declared.errors.ToolError.TheVariants.{TooManyFiles}
use Rattle.hwdb_plan.specs.Asking.{if_read}
use Rattle.hwdb_plan.specs.Plans.{Plan}
use Rattle.hwdb_plan.specs.Plans.End.{Stops}
use Rattle.hwdb_plan.specs.Plans.Plan.{Done, Names, Text}

-- what follows what is told of a folder, or the error if that isn't told
abbrev pub if_listed : {X : Type 0} (folder : List ℕ) → (X → Plan) → Result X Unlisted → Plan
if_listed folder next (Ok names) = next names
if_listed folder next (Err u) = Done (Stops (unlisted_stop folder u))

-- the names of a folder's text files
abbrev pub names_of : (folder : List ℕ) → (List (List ℕ) → Plan) → Plan
names_of folder next = Names folder (if_listed folder next)

-- the bytes of a text file
abbrev pub text_of : (path : List ℕ) → (List ℕ → Plan) → Plan
text_of path next = Text path (if_read path (λ at bytes. next bytes))

-- the text files at these paths are read in their order, after others that have these texts, up to the first that can't be
unfoldable pub read_texts : (paths texts : List (List ℕ)) → (List (List ℕ) → Plan) → Plan
read_texts [] texts next = next texts
read_texts (path ∷ more) texts next = text_of path (λ bytes. read_texts more (texts ++ bytes ∷ []) next)

-- the paths of chosen files below a root
abbrev pub paths_of : (root : List ℕ) → List Choice → List (List ℕ)
paths_of root chosen = map (λ (c : Choice). root ++ path_of c) chosen

-- files are chosen by the names in both folders, unless they are too many
abbrev pub choose : (etc usr : List (List ℕ)) → (List Choice → Plan) → Plan
choose etc usr next = if nat_le (length (names etc usr)) max_files then next (choice etc usr) else Done (Stops (Plain TooManyFiles))

-- text files of both folders: the names of all in /usr/lib, those that are chosen, and what each of these holds
pub record Texts : Type 0 where
  pub listed : List (List ℕ)
  pub chosen : List Choice
  pub texts : List (List ℕ)

-- some names, choices and texts
abbrev pub with_texts : (listed : List (List ℕ)) (chosen : List Choice) (texts : List (List ℕ)) → Texts
with_texts listed chosen texts = record { listed = listed; chosen = chosen; texts = texts }

-- those of these names
abbrev pub texts_of_names : (root : List ℕ) (etc usr : List (List ℕ)) → (Texts → Plan) → Plan
texts_of_names root etc usr next = choose etc usr (λ chosen. read_texts (paths_of root chosen) [] (λ texts. next (with_texts usr chosen texts)))

-- those of both folders: /etc's is listed first
abbrev pub texts_of_folders : (root : List ℕ) → (Texts → Plan) → Plan
texts_of_folders root next = names_of (etc_files root) (λ etc. names_of (usr_files root) (λ usr. texts_of_names root etc usr next))
