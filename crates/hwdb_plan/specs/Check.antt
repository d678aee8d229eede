-- The plan of `check`. Our choice.
use Rattle.std.specs.Prelude.{◌∷◌, ℕ, Bool, List, [], Option, Result, if◌then◌else◌, is_some, map}
use Rattle.hwdb_spec.specs.Folders.{Choice, Source, path_of}
use Rattle.hwdb_spec_commands.specs.Checks.{named, names_nothing, names_other, nothing_named, other_named, rules_name}
use Rattle.hwdb_spec_commands.specs.Jobs.{text_if}
use Rattle.hwdb_spec_commands.specs.Patches.{said_err, said_out, said_status}
use Rattle.hwdb_spec_commands.specs.declared.formats.Format.{Format}
use Rattle.hwdb_spec_commands.specs.declared.unread.Unread.{Unread}
use Rattle.hwdb_plan.specs.Files.{source_at}
use Rattle.hwdb_plan.specs.Folders.{texts_of_folders}
use Rattle.hwdb_plan.specs.OwnRules.{own_rules}
use Rattle.hwdb_plan.specs.Plans.{End, Plan}
use Rattle.hwdb_plan.specs.Plans.End.{Answers}
use Rattle.hwdb_plan.specs.Plans.Plan.{Done}
use Rattle.hwdb_plan.specs.Requests.{Request, told_plan}
use Rattle.hwdb_plan.specs.Requests.Request.{Alone, Fit, Meant, Over, Texts}

-- What is said of some files, but for kinds that are allowed and findings that are known. Standard input may have a name. The status is 1 if
-- a fault is among it, or `strict` and a warning; with a patch, if there is something to mend.
abbrev pub said_of : (format : Format) (strict : Bool) (allowed : List (List ℕ)) (name : Option (List ℕ)) (known : List (List ℕ)) → List Source → End
said_of format strict allowed name known sources =
    let files = map (named name) sources in
    Answers (said_status format strict allowed known files) (said_err format allowed files) (said_out format allowed known files)

-- chosen files with their texts, each by its stored path
unfoldable pub stored : List Choice → (texts : List (List ℕ)) → List Source
stored [] texts = []
stored (c ∷ chosen) [] = []
stored (c ∷ chosen) (text ∷ texts) = source_at (path_of c) text ∷ stored chosen texts

-- what is said of the files that the words mean, which are found first and then read; or without words of those of both folders
abbrev pub files_request : (given : List (List ℕ)) (root : List ℕ) (say : List Source → End) → Request
files_request [] root say = Alone (texts_of_folders root (λ texts. Done (say (stored texts.chosen texts.texts))))
files_request (path ∷ more) root say = Meant (path ∷ more) (λ paths. Texts (path ∷ more) paths (λ sources. Alone (Done (say sources))))

-- what is said of the files, by what a baseline has, which is read before them; but before anything is read it is an error if a name is given,
-- and no file is standard input
abbrev pub check_request : (given : List (List ℕ)) (root : List ℕ) (name baseline : Option (List ℕ)) → (say : (known : List (List ℕ)) → List Source → End) → Request
check_request given root name baseline say =
    Fit (text_if (names_nothing name given) nothing_named) (Over baseline (λ known. files_request given root (say known)))

-- ---- `--rules`
-- What is said of rules files: without words of the machine's own, else of those that the words mean, if each is one. A name without a file
-- is an error here, too.
abbrev pub rules_request : (given : List (List ℕ)) (root : List ℕ) (name baseline : Option (List ℕ)) → (say : (name : Option (List ℕ)) (known : List (List ℕ)) → List Source → End) → Request
rules_request [] root name baseline say =
    Fit (text_if (is_some name) nothing_named) (Over baseline (λ known. Alone (own_rules root (λ sources. Done (say name known sources)))))
rules_request (path ∷ more) root name baseline say =
    let own = rules_name name (path ∷ more) in
    Fit (text_if (names_other name (path ∷ more)) other_named) (check_request (path ∷ more) root own baseline (say own))

-- what is said with the option, or without it
abbrev pub asked_request : (rules : Bool) (given : List (List ℕ)) (root : List ℕ) (name baseline : Option (List ℕ)) → (say : (name : Option (List ℕ)) (known : List (List ℕ)) → List Source → End) → Request
asked_request rules given root name baseline say = if rules then rules_request given root name baseline say else check_request given root name baseline (say name)

-- ---- the plans of these
abbrev pub check_plan : (told : Result (List ℕ) Unread) (given : List (List ℕ)) (root : List ℕ) (say : List Source → End) → Plan
check_plan told given root say = told_plan told (files_request given root say)

abbrev pub checked_plan : (told : Result (List ℕ) Unread) (given : List (List ℕ)) (root : List ℕ) (name baseline : Option (List ℕ))
    → (say : (known : List (List ℕ)) → List Source → End) → Plan
checked_plan told given root name baseline say = told_plan told (check_request given root name baseline say)

-- with `--rules`, and with it or without it
abbrev pub rules_plan : (told : Result (List ℕ) Unread) (given : List (List ℕ)) (root : List ℕ) (name baseline : Option (List ℕ))
    → (say : (name : Option (List ℕ)) (known : List (List ℕ)) → List Source → End) → Plan
rules_plan told given root name baseline say = told_plan told (rules_request given root name baseline say)

abbrev pub asked_plan : (told : Result (List ℕ) Unread) (rules : Bool) (given : List (List ℕ)) (root : List ℕ) (name baseline : Option (List ℕ))
    → (say : (name : Option (List ℕ)) (known : List (List ℕ)) → List Source → End) → Plan
asked_plan told rules given root name baseline say = told_plan told (asked_request rules given root name baseline say)
