-- What two runs of the program with the same words have in common, if the words have a plan, and what an error of a run says of standard
-- input. Our choice.
use Rattle.std.specs.Prelude.{◌≡◌, ◌⊎◌, ℕ, IfSome, List, Ok, Err, Option, Result, Some, codes, ◌<◌, length, Bool}
use Rattle.clap.specs.Simple.{subcommand_of}
use Rattle.clap.specs.Walk.{Text}
use Rattle.hwdb_spec.specs.Failures.{HasFailed}
use Rattle.hwdb_spec.specs.Texts.{devices_of, max_file}
use Rattle.hwdb_spec.specs.declared.causes.Cause.{Cause}
use Rattle.hwdb_spec.specs.declared.errors.ToolError.TheVariants.{Memory, Read, TooLong, Write}
use Rattle.hwdb_spec_commands.specs.AnsweredLines.{line_error}
use Rattle.hwdb_spec_commands.specs.CommandLine.{hwdb_app}
use Rattle.hwdb_spec_commands.specs.DeviceTree.{Sight}
use Rattle.hwdb_spec_commands.specs.Runs.{Told}
use Rattle.hwdb_spec_commands.specs.Told.{Reads, stop_of}
use Rattle.hwdb_spec_commands.specs.Told.Stop.{Over}
use Rattle.hwdb_spec_commands.specs.declared.refusals.Refusal.{Refusal}
use Rattle.hwdb_spec_commands.specs.declared.refusals.Refusal.TheVariants.{Plain}
use Rattle.hwdb_plan.specs.Ended.{Outs, outs}
use Rattle.hwdb_plan.specs.Plans.{Ends}
use Rattle.hwdb_plan.specs.Plans.End.{Stops}
use Rattle.hwdb_spec_program.specs.ProgramPlan.{IsReported, ShowsPlan, error_status, shown_plan}
use Rattle.hwdb_laws.specs.PlannedErrors.{AreOneError, IsOfReading}
use Rattle.hwdb_laws.specs.PlannedRuns.{HavePlan, Tells}

-- A run of the program with these words that reports what their plan ends in, as `ReportsPlan` has it, whether or not the reader of standard
-- output went away; and whether or not standard error is a terminal.
pub record IsRun (at_terminal : Bool) (words : List Text) (w : Reads) (sight : Sight) (input input_now : Told) (before now : Outs) (status : ℕ) : Type 0 where
  pub result : Result ℕ Refusal
  pub err_then : Told
  pub shows : ShowsPlan (λ a. shown_plan at_terminal a words) w sight input input_now before (outs err_then now.out) result
  pub reported : IsReported (Unit {0}) (error_status (subcommand_of hwdb_app words)) result status err_then now.err

-- the devices of a run tell what they had
pub record AllTell (given : Told) (before : Outs) : Type 0 where
  pub input : Tells given
  pub err : Tells before.err
  pub out : Tells before.out

-- ---- two runs
-- Two runs of the program with the same words begin over one file system and one sysfs, and their devices tell the same. What the words ask for
-- is done in both. Then they have one status, and both outputs have the same.
abbrev pub JobsAreOne : Type 0
JobsAreOne = (at_terminal : Bool) (words : List Text) (w : Reads) (sight : Sight) (input input_now input_now2 : Told) (before now now2 : Outs) (status status2 n m : ℕ) → HavePlan at_terminal words → AllTell input before
    → (one : IsRun at_terminal words w sight input input_now before now status) → (two : IsRun at_terminal words w sight input input_now2 before now2 status2)
    → one.result ≡ Ok n → two.result ≡ Ok m
    → (status ≡ status2) × (now.err.bytes ≡ now2.err.bytes) × (now.out.bytes ≡ now2.out.bytes)

-- What the words ask for is done in one of two such runs. Then the other one ends with an error only for want of memory, or since an output
-- failed, or a call of standard input.
abbrev pub DoneJobIsNoError : Type 0
DoneJobIsNoError = (at_terminal : Bool) (words : List Text) (w : Reads) (sight : Sight) (input input_now input_now2 : Told) (before now now2 : Outs) (status status2 n : ℕ) (r : Refusal) → HavePlan at_terminal words → AllTell input before
    → (HasFailed input.failures input_now2.failures → ⊥)
    → (one : IsRun at_terminal words w sight input input_now before now status) → (two : IsRun at_terminal words w sight input input_now2 before now2 status2)
    → one.result ≡ Ok n → two.result ≡ Err r → (r ≡ Plain Memory) ⊎ (r ≡ Plain Write)

-- Both end with an error that comes of what is read. Then they have one status and one error, and before its line both outputs have the
-- same.
abbrev pub JobsEndInOneError : Type 0
JobsEndInOneError = (at_terminal : Bool) (words : List Text) (w : Reads) (sight : Sight) (input input_now input_now2 : Told) (before now now2 : Outs) (status status2 : ℕ) (r r2 : Refusal) → HavePlan at_terminal words → AllTell input before
    → IsOfReading input input_now r → IsOfReading input input_now2 r2
    → (one : IsRun at_terminal words w sight input input_now before now status) → (two : IsRun at_terminal words w sight input input_now2 before now2 status2)
    → one.result ≡ Err r → two.result ≡ Err r2
    → (status ≡ status2) × AreOneError r r2 × (one.err_then ≡ two.err_then) × (now.out.bytes ≡ now2.out.bytes)

-- ---- what an error says of standard input
-- the plan of the words ends in this error with some bytes of standard input, too: it is an error of something else
abbrev pub EndsWhateverIsRead : (at_terminal : Bool) (words : List Text) (w : Reads) (sight : Sight) (have : HavePlan at_terminal words) → Refusal → Type 0
EndsWhateverIsRead at_terminal words w sight have r = (bytes cause : List ℕ) × Ends w (have.plan (record { input = Ok bytes; sight = sight; cause = cause })) (Stops (stop_of r))

-- It says that standard input can't be read only if a call of it failed.
abbrev pub InputIsRead : Type 0
InputIsRead = (at_terminal : Bool) (words : List Text) (w : Reads) (sight : Sight) (input input_now : Told) (before now : Outs) (r : Refusal) (cause : Option Cause) → (have : HavePlan at_terminal words)
    → ShowsPlan (λ a. shown_plan at_terminal a words) w sight input input_now before now (Err r) → stop_of r ≡ Over Read (codes "standard input") cause
    → HasFailed input.failures input_now.failures ⊎ EndsWhateverIsRead at_terminal words w sight have r

-- It says that standard input is too long only if it has more bytes than a file may have, and tells them.
abbrev pub InputIsLong : Type 0
InputIsLong = (at_terminal : Bool) (words : List Text) (w : Reads) (sight : Sight) (input input_now : Told) (before now : Outs) (r : Refusal) (cause : Option Cause) → (have : HavePlan at_terminal words)
    → ShowsPlan (λ a. shown_plan at_terminal a words) w sight input input_now before now (Err r) → stop_of r ≡ Over TooLong (codes "standard input") cause
    → IfSome input.bytes (λ told. max_file < length told) ⊎ EndsWhateverIsRead at_terminal words w sight have r

-- It says that a line of standard input is too long only if one that is to be answered is.
abbrev pub LineIsLong : Type 0
LineIsLong = (at_terminal : Bool) (words : List Text) (w : Reads) (sight : Sight) (input input_now : Told) (before now : Outs) (r : Refusal) (cause : Option Cause) → (have : HavePlan at_terminal words)
    → ShowsPlan (λ a. shown_plan at_terminal a words) w sight input input_now before now (Err r) → stop_of r ≡ Over TooLong (codes "a line of standard input") cause
    → IfSome input.bytes (λ told. line_error (devices_of told) ≡ Some TooLong) ⊎ EndsWhateverIsRead at_terminal words w sight have r
