-- The text files that given paths mean, as the front of a plan: a path of a folder means the text files in it. Our choice.
use Rattle.std.specs.Prelude.{◌++◌, ◌∷◌, ℕ, List, None, Option, Some, [], if◌then◌else◌, length, nat_le}
use Rattle.hwdb_spec.specs.Folders.{max_files, names}
use Rattle.hwdb_spec.specs.declared.errors.ToolError.TheVariants.{TooManyFiles}
use Rattle.hwdb_spec_commands.specs.CheckedFiles.{files_in, folder_of}
use Rattle.hwdb_spec_commands.specs.Given.{is_dash}
use Rattle.hwdb_spec_commands.specs.Told.Stop.{Plain}
use Rattle.hwdb_plan.specs.Folders.{if_listed}
use Rattle.hwdb_plan.specs.Plans.{Plan}
use Rattle.hwdb_plan.specs.Plans.End.{Stops}
use Rattle.hwdb_plan.specs.Plans.Plan.{Done, Folder}

-- what a path means whose folder has these text files, unless they are too many
abbrev pub if_few : (path : List ℕ) (found : List (List ℕ)) → (List (List ℕ) → Plan) → Plan
if_few path found next = if nat_le (length (names found [])) max_files then next (files_in path found) else Done (Stops (Plain TooManyFiles))

-- the same if a folder is there, or else the path itself
abbrev pub if_folder : (path : List ℕ) (found : Option (List (List ℕ))) → (List (List ℕ) → Plan) → Plan
if_folder path None next = next (path ∷ [])
if_folder path (Some found) next = if_few path found next

-- what a path means that is no `-`
abbrev pub files_at : (path : List ℕ) → (List (List ℕ) → Plan) → Plan
files_at path next = Folder (folder_of path) (if_listed (folder_of path) (λ found. if_folder path found next))

-- what a path means
abbrev pub files_for : (path : List ℕ) → (List (List ℕ) → Plan) → Plan
files_for path next = if is_dash path then next (path ∷ []) else files_at path next

-- what given paths mean, in their order, after those that others mean: a folder that can't be listed, or has too many, ends it
unfoldable pub named_files : (given paths : List (List ℕ)) → (List (List ℕ) → Plan) → Plan
named_files [] paths next = next paths
named_files (path ∷ more) paths next = files_for path (λ own. named_files more (paths ++ own) next)
