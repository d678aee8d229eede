-- What the steps of an update hold that looks at what is lost.
use Rattle.hwdb_spec_commands.specs.declared.refusals.Refusal.TheVariants.{Plain}
use Rattle.hwdb_spec.specs.declared.errors.ToolError.TheVariants.{Memory, Write}
use Rattle.hwdb_plan.specs.Plans.End.{Answers}
use Rattle.hwdb_plan.specs.Plans.{Ends, Plan}
use Rattle.std.specs.Prelude.{◌==◌, ◌≡◌, Bool, Err, IsErrAnd, List, Ok, Option, Result, false, ℕ, ◌⊎◌, [], MatchResult}
use Rattle.hwdb_compile.specs.Views.{ForFolders}
use Rattle.hwdb_text.specs.declared.choice.ChosenFile.{ChosenFile}
use Rattle.hwdb_plan.specs.Put.{put_plan}
use Rattle.hwdb_plan.specs.Putting.{PutsEnd}
use Rattle.hwdb_spec.specs.Texts.{status_of}
use Rattle.hwdb_spec_commands.specs.Told.{Reads}
use Rattle.hwdb_spec_commands.specs.Runs.{Files, HasTaken, Told, WasCut}
use Rattle.hwdb_spec_commands.specs.Status.{Amount}
use Rattle.hwdb_spec_commands.specs.Status.Amount.{Counted, Uncounted}
use Rattle.hwdb_spec.specs.Store.{database_name, path_in}
use Rattle.hwdb_spec.specs.declared.errors.ToolError.{ToolError}
use Rattle.hwdb_spec_commands.specs.Refusals.{IsOfUpdate}
use Rattle.hwdb_spec_commands.specs.declared.refusals.Refusal.{Refusal}

-- this much is nothing, in a database
abbrev pub is_nothing : Amount → Bool
is_nothing (Counted files assignments bytes) = assignments == 0
is_nothing (Uncounted bytes) = false

-- ---- results of steps, as a plan's end has them
-- the result has another status
abbrev pub status_by : (less : ℕ → ℕ) → Result ℕ Refusal → Result ℕ Refusal
status_by less (Ok status) = Ok (less status)
status_by less (Err r) = Err r

-- this is the result of a step of an update with another status, or with the error that it becomes over the path of the database
abbrev pub IsResultOf : (path : List ℕ) (less : ℕ → ℕ) → Result ℕ ToolError → Result ℕ Refusal → Type 0
IsResultOf path less (Ok status) result = result ≡ Ok (less status)
IsResultOf path less (Err e) result = IsErrAnd result (IsOfUpdate e path)

-- a step puts the database of files in its place, or not, as their plan says; the status may become another one
abbrev pub PutsFiles : Result ℕ ToolError → (loss : List ℕ) (listed : Option (List (List ℕ))) (strict : Bool) (folder : List ℕ) → List ChosenFile → (before now : Files) (err_before err_now : Told) → Type 0
PutsFiles result loss listed strict folder files before now err_before err_now =
    (w : Reads) (less : ℕ → ℕ) (shown : Result ℕ Refusal) → IsResultOf (path_in folder database_name) less result shown
    → ForFolders files (λ etc usr. PutsEnd w (put_plan loss etc usr listed (λ faults. less (status_of strict faults)) folder) before now err_before err_now shown)

-- ---- a text before an update
-- a step says what a plan ends in, for standard error alone; or it doesn't, since there was no memory, or standard error fails
abbrev pub SaysOnly : {V : Type 0} → Reads → Plan → (err_before err_now : Told) → Result V Refusal → Type 0
SaysOnly w p err_before err_now result =
    MatchResult result (λ _. (text : List ℕ) × Ends w p (Answers 0 text []) × HasTaken text err_before err_now)
    (λ r. ((r ≡ Plain Memory) × (err_now ≡ err_before)) ⊎ ((text : List ℕ) × Ends w p (Answers 0 text []) × (r ≡ Plain Write) × WasCut text err_before err_now))
