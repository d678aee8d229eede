-- The errors of each task, when each comes, and what it leaves. Our choice.
use Rattle.std.specs.Prelude.{◌++◌, ◌≡◌, ◌⊎◌, Bool, Contains, List, None, Option, codes, false, true, ℕ}
use Rattle.hwdb_spec_commands.specs.CheckErrors.{IsCheckRefusal}
use Rattle.hwdb_spec.specs.Failures.{HasFailed}
use Rattle.hwdb_spec.specs.Folders.{Source}
use Rattle.hwdb_spec_commands.specs.Given.{is_dash}
use Rattle.hwdb_spec.specs.Store.{AreTaken, Contents, most_parts}
use Rattle.hwdb_spec_commands.specs.Refusals.{IsUnread}
use Rattle.hwdb_spec_commands.specs.declared.refusals.Refusal.{Refusal}
use Rattle.hwdb_spec_commands.specs.declared.refusals.Refusal.TheVariants.{Plain}
use Rattle.hwdb_spec.specs.declared.errors.ScanError.{ScanError}
use Rattle.hwdb_spec.specs.Errors.{refusal_of_scan}
use Rattle.hwdb_spec.specs.declared.errors.ToolError.TheVariants.{Memory}

-- how an error names a file that is given: `-` is standard input
abbrev pub told_as : (dash : Bool) (path : List ℕ) → List ℕ
told_as true path = codes "standard input"
told_as false path = path

-- the same, by the path
abbrev pub told_path : (path : List ℕ) → List ℕ
told_path path = told_as (is_dash path) path

-- reading one of the given files failed
abbrev pub IsGivenUnread : (given : List (List ℕ)) → Refusal → Type 0
IsGivenUnread given refusal = (refusal ≡ Plain Memory) ⊎ ((path : List ℕ) × Contains given path × IsUnread (told_path path) refusal)

-- such files give an error
pub record AreNotChecked (Are : List Source → Type 0) (refusal : Refusal) : Type 0 where
  pub sources : List Source
  pub are : Are sources
  pub error : ScanError
  pub is : refusal ≡ Plain (refusal_of_scan error)
  pub refused : IsCheckRefusal sources error

-- the database of a folder can't be written: a call failed, or each name for the new file is taken
abbrev pub IsUnwritable : (folder : List ℕ) → Contents → (failures_before failures_now : ℕ) → Type 0
IsUnwritable folder contents before now = HasFailed before now ⊎ AreTaken folder most_parts contents
