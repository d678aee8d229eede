-- What a query finds after a crash, or a kill, at any moment of a run, and a start.
use Rattle.std.specs.Prelude.{◌≡◌, ◌≢◌, ◌⊎◌, ◌≤◌, ℕ, false, List, [], ◌∷◌, Option}
use Rattle.clap.specs.Faults.{fault_of}
use Rattle.hwdb_spec_commands.specs.CommandLine.{hwdb_app}
use Rattle.hwdb_spec_program.specs.Words.{AskFor}
use Rattle.hwdb_spec_commands.specs.declared.job.Job.{Job}
use Rattle.hwdb_spec.specs.Store.{Contents, LeavesOnly, Outcomes, Stored, database_name, path_in}
use Rattle.hwdb_spec.specs.Folders.{Choice}
use Rattle.hwdb_spec.specs.System.{database_folder}
use Rattle.hwdb_spec.specs.Texts.{queries_text}
use Rattle.hwdb_spec_commands.specs.Asked.{IsAnswered}
use Rattle.hwdb_tool.specs.Laws.{IsOfLast}
use Rattle.hwdb_spec_commands.specs.LeftOut.{AreLeftOut, without}
use Rattle.hwdb_spec_program.specs.Program.{OldOrAskedFor, root_of, skips}
use Rattle.hwdb_spec_commands.specs.Databases.{IsTextOf}

-- what is there after a start: under each path something that the crash may have left
abbrev pub Booted : Outcomes → Contents → Type 0
Booted outcomes contents = (p : List ℕ) → outcomes p (contents p)

-- The text of a query of a device over these files is what the text files of the others assign it last.
abbrev pub AnswersFrom : (root : List ℕ) (old after : Contents) → Type 0
AnswersFrom root old after = (device text : List ℕ) → IsAnswered root (IsTextOf (queries_text (device ∷ []))) after text → IsOfLast root old device text

-- the same over the files that a job doesn't leave out
abbrev pub AnswersFromRead : (MayFail : (path : List ℕ) → Type 0) → Job → (old after : Contents) → Type 0
AnswersFromRead MayFail job old after = (left_out : List Choice) × AreLeftOut (skips job.task) MayFail (root_of job) old left_out
    × AnswersFrom (root_of job) (without left_out (root_of job) old) after

-- The words ask for a job below a root whose database is /etc's. Its place has what a crash might have left there before the
-- run. Or a query over what is there prints what the text files assign last that the job doesn't leave out.
abbrev pub CrashThenQuery : (MayFail : (path : List ℕ) → Type 0) (before : Outcomes) → Type 0
CrashThenQuery MayFail before = (words : List (List ℕ)) (job : Job) → AskFor words job → job.usr ≡ false
    → (old after : Contents) → Booted (OldOrAskedFor MayFail words old before) after
    → before (path_in (database_folder false (root_of job)) database_name) (after (path_in (database_folder false (root_of job)) database_name))
    ⊎ AnswersFromRead MayFail job old after

-- Without `--skip-unreadable` it is what all text files assign last.
abbrev pub CrashThenQueryOfAll : (MayFail : (path : List ℕ) → Type 0) (before : Outcomes) → Type 0
CrashThenQueryOfAll MayFail before = (words : List (List ℕ)) (job : Job) → AskFor words job → job.usr ≡ false → skips job.task ≡ false
    → (old after : Contents) → Booted (OldOrAskedFor MayFail words old before) after
    → before (path_in (database_folder false (root_of job)) database_name) (after (path_in (database_folder false (root_of job)) database_name))
    ⊎ AnswersFrom (root_of job) old after

-- the same of a run of which a crash leaves only that, as `program` promises
abbrev pub CrashOfRunThenQuery : {D : Type 0} (moment : D → ℕ) (left_since : D → ℕ → Outcomes) (seen : D → Contents) (may_leave : D → Outcomes) (MayFail : (path : List ℕ) → Type 0) (old new : D) → Type 0
CrashOfRunThenQuery moment left_since seen may_leave MayFail old new = (words : List (List ℕ)) (job : Job) → AskFor words job → job.usr ≡ false
    → LeavesOnly moment left_since old new (OldOrAskedFor MayFail words (seen old) (may_leave old))
    → (after : Contents) → Booted (left_since new (moment old)) after
    → may_leave old (path_in (database_folder false (root_of job)) database_name) (after (path_in (database_folder false (root_of job)) database_name))
    ⊎ AnswersFromRead MayFail job (seen old) after

-- A moment of a run between two of its calls. It isn't before the run. What a crash might have left by then, it still might
-- have at the run's end. Each call sees to both (`Elapses`, the first and the last part).
pub record IsBetween {D : Type 0} (moment : D → ℕ) (left_since : D → ℕ → Outcomes) (old middle new : D) : Type 0 where
  pub begun : moment old ≤ moment middle
  pub kept : (t : ℕ) (p : List ℕ) (v : Option Stored) → t ≤ moment middle → left_since middle t p v → left_since new t p v

-- A kill leaves what stood at some such moment: it is among what a crash during the run may leave.
abbrev pub KillLeavesWhatStood : (tells : Type 0) {D : Type 0} (moment : D → ℕ) (left_since : D → ℕ → Outcomes) (seen : D → Contents) (old middle new : D) → Type 0
KillLeavesWhatStood tells moment left_since seen old middle new =
    tells → IsBetween moment left_since old middle new → Booted (left_since new (moment old)) (seen middle)

-- So after a kill the database's place has what a crash might have left there before the run. Or a query prints what the text
-- files assign last that the job doesn't leave out.
abbrev pub KillThenQuery : (tells : Type 0) {D : Type 0} (moment : D → ℕ) (left_since : D → ℕ → Outcomes) (seen : D → Contents) (may_leave : D → Outcomes) (MayFail : (path : List ℕ) → Type 0) (old middle new : D) → Type 0
KillThenQuery tells moment left_since seen may_leave MayFail old middle new = tells → IsBetween moment left_since old middle new
    → (words : List (List ℕ)) (job : Job) → AskFor words job → job.usr ≡ false
    → LeavesOnly moment left_since old new (OldOrAskedFor MayFail words (seen old) (may_leave old))
    → may_leave old (path_in (database_folder false (root_of job)) database_name) (seen middle (path_in (database_folder false (root_of job)) database_name))
    ⊎ AnswersFromRead MayFail job (seen old) (seen middle)

-- Words with a fault leave what was there.
abbrev pub FaultsLeaveAll : (MayFail : (path : List ℕ) → Type 0) (before : Outcomes) → Type 0
FaultsLeaveAll MayFail before = (words : List (List ℕ)) → fault_of hwdb_app words ≢ [] → (old after : Contents) → Booted (OldOrAskedFor MayFail words old before) after → Booted before after
