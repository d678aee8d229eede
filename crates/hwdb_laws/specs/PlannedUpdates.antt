-- What two updates over one input have in common that are done, and what runs leave that are no updates. Our choice.
use Rattle.std.specs.List.{AllByRecursion}
use Rattle.std.specs.Prelude.{◌≡◌, ◌≢◌, ◌⊎◌, ◌++◌, ℕ, Err, List, Ok, Option, Result, Some, IsOk, false, Bool}
use Rattle.clap.specs.Walk.{Text}
use Rattle.hwdb_spec.specs.Folders.{Choice, choice, path_of}
use Rattle.hwdb_spec.specs.Store.{Contents, IsPartPath, Outcomes, Same, Stored, database_file, database_name, path_in}
use Rattle.hwdb_spec.specs.System.{database_folder, etc_files, usr_files}
use Rattle.hwdb_spec.specs.declared.errors.ToolError.TheVariants.{Memory, Write}
use Rattle.hwdb_spec_commands.specs.Refusals.{IsOver}
use Rattle.hwdb_spec_commands.specs.Runs.{AreKept, Files}
use Rattle.hwdb_spec_commands.specs.Told.{Reads}
use Rattle.hwdb_spec_commands.specs.declared.refusals.Refusal.{Refusal}
use Rattle.hwdb_spec_commands.specs.declared.refusals.Refusal.TheVariants.{Plain}
use Rattle.hwdb_plan.specs.Ended.{Outs}
use Rattle.hwdb_spec_program.specs.ProgramPlan.{AskedUpdate, OldOrAsked, UpdatesIfAsked, update_of}
use Rattle.hwdb_laws.specs.PlannedErrors.{AreOneError}
use Rattle.hwdb_laws.specs.PlannedRuns.{HavePlan, Tells}

-- each chosen text file below a root can be read
abbrev pub AreReadable : Reads → (root : List ℕ) → Type 0
AreReadable w root = (etc usr : List (List ℕ)) → w.names (etc_files root) ≡ Ok etc → w.names (usr_files root) ≡ Ok usr
    → AllByRecursion (λ (c : Choice). IsOk (w.text (root ++ path_of c))) (choice etc usr)

-- an update leaves out no file: it isn't asked to leave out what can't be read, or all can be read
abbrev pub LeavesNoneOut : Reads → AskedUpdate → Type 0
LeavesNoneOut w u = (u.skip ≡ false) ⊎ AreReadable w u.root

-- two runs begin over the same files, and their outputs tell the same
pub record BeginAlike (before before2 : Files) (outs outs2 : Outs) : Type 0 where
  pub files : Same before.seen before2.seen
  pub tells : Tells outs.err
  pub err : outs2.err.bytes ≡ outs.err.bytes
  pub out : outs2.out.bytes ≡ outs.out.bytes

-- One status, and one database in place. Other paths may differ if they are those of new files: what a killed update left there may have
-- gone in the one run, and not in the other. The words of the causes of files that are left out may be others, too.
pub record IsOneUpdate (w : Reads) (u : AskedUpdate) (status status2 : ℕ) (now now2 : Files) (outs outs2 : Outs) : Type 0 where
  pub one_status : status ≡ status2
  pub database : List ℕ
  pub in_place : now.seen (path_in (database_folder u.usr u.root) database_name) ≡ Some (database_file database)
  pub in_place2 : now2.seen (path_in (database_folder u.usr u.root) database_name) ≡ Some (database_file database)
  pub one_files : (path : List ℕ) → (now2.seen path ≡ now.seen path) ⊎ IsPartPath (database_folder u.usr u.root) path
  pub one_err : LeavesNoneOut w u → outs.err.bytes ≡ outs2.err.bytes
  pub one_out : outs.out.bytes ≡ outs2.out.bytes

-- Two runs with words that ask for an update begin alike, and what each file and folder tells is the same. Both are done. Then they are one.
abbrev pub PlannedUpdatesAreOne : (before now before2 now2 : Files) → Type 0
PlannedUpdatesAreOne before now before2 now2 = (words : List Text) (w : Reads) (u : AskedUpdate) (outs_before outs_now outs_before2 outs_now2 : Outs) (status status2 : ℕ)
    → update_of words ≡ Some u → BeginAlike before before2 outs_before outs_before2
    → UpdatesIfAsked (update_of words) w before now outs_before outs_now (Ok status)
    → UpdatesIfAsked (update_of words) w before2 now2 outs_before2 outs_now2 (Ok status2)
    → IsOneUpdate w u status status2 now now2 outs_now outs_now2

-- One of two such runs is done. Then the other one ends with an error only for want of memory, or since standard error failed or the
-- database can't be written.
abbrev pub PlannedUpdateIsNoError : (before now before2 now2 : Files) → Type 0
PlannedUpdateIsNoError before now before2 now2 = (words : List Text) (w : Reads) (u : AskedUpdate) (outs_before outs_now outs_before2 outs_now2 : Outs) (status : ℕ) (r : Refusal)
    → update_of words ≡ Some u
    → UpdatesIfAsked (update_of words) w before now outs_before outs_now (Ok status)
    → UpdatesIfAsked (update_of words) w before2 now2 outs_before2 outs_now2 (Err r)
    → (r ≡ Plain Memory) ⊎ ((r ≡ Plain Write) ⊎ IsOver Write (path_in (database_folder u.usr u.root) database_name) r)

-- an update's error comes of what is read: there was memory, standard error took its lines, and the database could be written
pub record IsOfTexts (u : AskedUpdate) (r : Refusal) : Type 0 where
  pub memory : r ≢ Plain Memory
  pub output : r ≢ Plain Write
  pub put : IsOver Write (path_in (database_folder u.usr u.root) database_name) r → ⊥

-- Both of two such runs end with an error that comes of what is read. Then they have one error, and no file changed.
abbrev pub PlannedUpdatesEndInOneError : (before now before2 now2 : Files) → Type 0
PlannedUpdatesEndInOneError before now before2 now2 = (words : List Text) (w : Reads) (u : AskedUpdate) (outs_before outs_now outs_before2 outs_now2 : Outs) (r r2 : Refusal)
    → update_of words ≡ Some u → IsOfTexts u r → IsOfTexts u r2
    → UpdatesIfAsked (update_of words) w before now outs_before outs_now (Err r)
    → UpdatesIfAsked (update_of words) w before2 now2 outs_before2 outs_now2 (Err r2)
    → AreOneError r r2 × AreKept before now × AreKept before2 now2

-- A run with words that have a plan changes no file: they ask for no update.
abbrev pub PlannedRunsKeepFiles : (before now : Files) → Type 0
PlannedRunsKeepFiles before now = (at_terminal : Bool) (words : List Text) (w : Reads) (outs_before outs_now : Outs) (result : Result ℕ Refusal) → HavePlan at_terminal words
    → UpdatesIfAsked (update_of words) w before now outs_before outs_now result → AreKept before now

-- A crash of it leaves what there was.
abbrev pub PlannedCrashesKeepFiles : Outcomes → Type 0
PlannedCrashesKeepFiles outcomes = (at_terminal : Bool) (words : List Text) (w : Reads) (causes : List (List ℕ)) (old : Contents) → HavePlan at_terminal words
    → (path : List ℕ) (v : Option Stored) → OldOrAsked (update_of words) w causes old outcomes path v → outcomes path v
