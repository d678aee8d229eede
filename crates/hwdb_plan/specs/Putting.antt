-- What a run leaves of files and of standard error, whose plan replaces a database; also one that says something before. Our choice.
use Rattle.std.specs.Prelude.{◌≡◌, ◌⊎◌, ℕ, List, Result, IsErrAnd}
use Rattle.hwdb_spec.specs.Store.{Contents, LeftAtParts, Outcomes}
use Rattle.hwdb_spec.specs.declared.errors.ToolError.TheVariants.{Write}
use Rattle.hwdb_spec_commands.specs.Runs.{AreKept, Files, HasTaken, Told, WasCut}
use Rattle.hwdb_spec_commands.specs.Told.{Reads, stop_of}
use Rattle.hwdb_spec_commands.specs.declared.refusals.Refusal.{Refusal}
use Rattle.hwdb_spec_commands.specs.declared.refusals.Refusal.TheVariants.{Plain}
use Rattle.hwdb_plan.specs.Ended.{IsUnput, ReplacesWith}
use Rattle.hwdb_plan.specs.Laws.{OldOrReplaced}
use Rattle.hwdb_plan.specs.Plans.{End, Ends, Plan}
use Rattle.hwdb_plan.specs.Plans.End.{Answers, Replaces, Stops}

-- ---- one plan
-- what is left if it ends so
abbrev pub Puts : End → (before now : Files) (err_before err_now : Told) → Result ℕ Refusal → Type 0
Puts (Replaces folder bytes said status) before now err_before err_now result = ReplacesWith folder bytes said status before now err_before err_now result
Puts (Stops s) before now err_before err_now result = IsErrAnd result (λ r. stop_of r ≡ s) × AreKept before now × (err_now ≡ err_before)
Puts e before now err_before err_now result = ⊥

-- a run leaves what its plan ends in, or there was no memory before anything was done
abbrev pub PutsEnd : Reads → Plan → (before now : Files) (err_before err_now : Told) → Result ℕ Refusal → Type 0
PutsEnd w p before now err_before err_now result =
    ((e : End) × Ends w p e × Puts e before now err_before err_now result) ⊎ IsUnput before now err_before err_now result

-- ---- one after another
-- a text can't be said, and nothing was done
abbrev pub IsUnsaid : (said : List ℕ) (before now : Files) (err_before err_now : Told) → Result ℕ Refusal → Type 0
IsUnsaid said before now err_before err_now result =
    IsErrAnd result (λ r. (r ≡ Plain Write) × WasCut said err_before err_now) × AreKept before now

-- a text was said, and then this holds of what standard error had
abbrev pub SaidBefore : (said : List ℕ) (After : Told → Type 0) (err_before : Told) → Type 0
SaidBefore said After err_before = (err_said : Told) × HasTaken said err_before err_said × After err_said

-- what is left if the first plan ends so: a text for standard error comes before what follows
abbrev pub Precedes : (After : Told → Type 0) → End → (before now : Files) (err_before err_now : Told) → Result ℕ Refusal → Type 0
Precedes After (Answers status said out) before now err_before err_now result =
    IsUnsaid said before now err_before err_now result ⊎ SaidBefore said After err_before
Precedes After (Stops s) before now err_before err_now result = Puts (Stops s) before now err_before err_now result
Precedes After e before now err_before err_now result = ⊥

-- a run says what a plan ends in, and then this holds of what standard error had; or there was no memory before anything was done
abbrev pub SaysThen : Reads → (first : Plan) (After : Told → Type 0) → (before now : Files) (err_before err_now : Told) → Result ℕ Refusal → Type 0
SaysThen w first After before now err_before err_now result =
    ((e : End) × Ends w first e × Precedes After e before now err_before err_now result) ⊎ IsUnput before now err_before err_now result

-- and then it does what another plan ends in
abbrev pub SaysThenPuts : Reads → (first after : Plan) → (before now : Files) (err_before err_now : Told) → Result ℕ Refusal → Type 0
SaysThenPuts w first after before now err_before err_now result =
    SaysThen w first (λ err_said. PutsEnd w after before now err_said err_now result) before now err_before err_now result

-- ---- a crash
-- a crash leaves what there was, or the bytes that the plan ends with in their place; or something under the path of a new file
abbrev pub OldOrPut : Reads → Plan → (old : Contents) (outcomes : Outcomes) → Outcomes
OldOrPut w p old outcomes path v = OldOrReplaced w p outcomes path v
    ⊎ ((folder bytes said : List ℕ) × (status : ℕ) × Ends w p (Replaces folder bytes said status) × LeftAtParts folder old path v)
