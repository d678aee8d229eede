-- The plan of `diff`. Our choice.
use Rattle.std.specs.Prelude.{ℕ, List, Result, if◌then◌else◌}
use Rattle.hwdb_spec.specs.Folders.{Source}
use Rattle.hwdb_spec.specs.Tree.{Tree}
use Rattle.hwdb_spec_commands.specs.SampleDevices.{told_changed, told_form, told_said}
use Rattle.hwdb_spec_commands.specs.Reviews.{Review}
use Rattle.hwdb_spec.specs.declared.errors.DiffError.{DiffError}
use Rattle.hwdb_spec.specs.declared.errors.DiffError.TheVariants.{Memory, New, Old}
use Rattle.hwdb_spec.specs.declared.errors.ToolError.TheVariants.{Memory as OutOfMemory}
use Rattle.hwdb_spec_commands.specs.Told.{Stop}
use Rattle.hwdb_spec_commands.specs.Told.Stop.{Plain}
use Rattle.hwdb_spec_commands.specs.Undone.{told_path}
use Rattle.hwdb_spec_commands.specs.declared.unread.Unread.{Unread}
use Rattle.hwdb_plan.specs.Dump.{bad_database}
use Rattle.hwdb_plan.specs.Plans.{End, Plan}
use Rattle.hwdb_plan.specs.Plans.End.{Answers}
use Rattle.hwdb_plan.specs.Plans.Plan.{Decode, Done}
use Rattle.hwdb_plan.specs.Requests.{Request, told_plan}
use Rattle.hwdb_plan.specs.Requests.Request.{Alone, OfSide, Texts}

-- what is said of two trees, for devices that are made or those of some files, or of all that they assign; the status is 1 if something changed
abbrev pub change_of : Review → List Source → (old new : Tree) → End
change_of r sources old new = Answers (if told_changed r sources old new then 1 else 0) (told_said r sources old new) (told_form r sources old new)

-- two sides' bytes are compared: a fault of the old one is told before one of the new
abbrev pub compared : (old_path new_path old new : List ℕ) → (say : Tree → Tree → End) → Plan
compared old_path new_path old new say =
    Decode old (bad_database (told_path old_path)) (λ t. Decode new (bad_database (told_path new_path)) (λ u. Done (say t u)))

-- what an error of the comparison becomes
abbrev pub diff_stop : (old_path new_path : List ℕ) → DiffError → Stop
diff_stop old_path new_path (Old f) = bad_database (told_path old_path) f
diff_stop old_path new_path (New f) = bad_database (told_path new_path) f
diff_stop old_path new_path Memory = Plain OutOfMemory

-- the old side is had before the new one
abbrev pub sides_request : (old_path new_path : List ℕ) → (say : Tree → Tree → End) → Request
sides_request old_path new_path say =
    OfSide old_path (λ old. OfSide new_path (λ new. Alone (compared old_path new_path old new say)))

-- all files of devices are read first, and then both sides
abbrev pub changes_request : (given : List (List ℕ)) (old_path new_path : List ℕ) → (say : List Source → Tree → Tree → End) → Request
changes_request given old_path new_path say = Texts given given (λ sources. sides_request old_path new_path (say sources))

-- ---- the plans of these
abbrev pub sides_compared : (told : Result (List ℕ) Unread) (old_path new_path : List ℕ) → (say : Tree → Tree → End) → Plan
sides_compared told old_path new_path say = told_plan told (sides_request old_path new_path say)

abbrev pub diff_plan : (told : Result (List ℕ) Unread) (given : List (List ℕ)) (old_path new_path : List ℕ) → (say : List Source → Tree → Tree → End) → Plan
diff_plan told given old_path new_path say = told_plan told (changes_request given old_path new_path say)
