-- The machine's own rules files below a root, as the front of a plan. Which folders these are, and which of their files count, is udev(7)'s.
-- The rest is our choice.
use Rattle.std.specs.Prelude.{◌++◌, ◌∷◌, Bool, List, [], false, map, true, ℕ}
use Rattle.hwdb_spec.specs.Folders.{Source}
use Rattle.hwdb_rulefiles.specs.RuleFolders.{Chosen, choice}
use Rattle.hwdb_rulefiles.specs.declared.choice.Folder.{Folder}
use Rattle.hwdb_rulefiles.specs.declared.choice.Folder.TheVariants.{Etc, Local, Run, Usr}
use Rattle.hwdb_spec_commands.specs.RulePaths.{rules_folder, rules_path}
use Rattle.hwdb_spec_commands.specs.Told.{rules_told}
use Rattle.hwdb_plan.specs.Files.{source_at}
use Rattle.hwdb_plan.specs.Folders.{if_listed, read_texts}
use Rattle.hwdb_plan.specs.Plans.{Plan}
use Rattle.hwdb_plan.specs.Plans.Plan.{Ignored}

-- the names of a folder's rules files
abbrev pub rules_in : (root : List ℕ) → Folder → (List (List ℕ) → Plan) → Plan
rules_in root f next = Ignored (rules_folder root f) (λ told. if_listed (rules_folder root f) next (rules_told told))

-- the files that count of all four folders: /etc's is listed first
abbrev pub rules_chosen : (root : List ℕ) → (List Chosen → Plan) → Plan
rules_chosen root next =
    rules_in root Etc (λ etc. rules_in root Run (λ run. rules_in root Local (λ local. rules_in root Usr (λ usr. next (choice etc run local usr)))))

-- files with these paths and texts
unfoldable pub sources_of : (paths texts : List (List ℕ)) → List Source
sources_of [] texts = []
sources_of (path ∷ paths) [] = []
sources_of (path ∷ paths) (text ∷ texts) = source_at path text ∷ sources_of paths texts

-- the files at these paths below a root are read, and each has its path without the root
abbrev pub rules_read : (root : List ℕ) (paths : List (List ℕ)) → (List Source → Plan) → Plan
rules_read root paths next = read_texts (map (λ (path : List ℕ). root ++ path) paths) [] (λ texts. next (sources_of paths texts))

-- whether there are none
unfoldable pub has_none : List Source → Bool
has_none [] = true
has_none (source ∷ more) = false

-- those of the files that count, in their order
abbrev pub own_rules : (root : List ℕ) → (List Source → Plan) → Plan
own_rules root next = rules_chosen root (λ chosen. rules_read root (map rules_path chosen) next)
