-- What two runs with the same words have in common, if the words have a plan. Our choice.
use Rattle.std.specs.Prelude.{◌≡◌, ◌⊎◌, ℕ, List, Some, Ok, Err, Bool}
use Rattle.clap.specs.Walk.{Text}
use Rattle.hwdb_spec.specs.Failures.{HasFailed}
use Rattle.hwdb_spec.specs.declared.errors.ToolError.TheVariants.{Memory, Write}
use Rattle.hwdb_spec_commands.specs.DeviceTree.{Sight}
use Rattle.hwdb_spec_commands.specs.Runs.{Told}
use Rattle.hwdb_spec_commands.specs.Told.{Reads}
use Rattle.hwdb_spec_commands.specs.declared.refusals.Refusal.{Refusal}
use Rattle.hwdb_spec_commands.specs.declared.refusals.Refusal.TheVariants.{Plain}
use Rattle.hwdb_plan.specs.Ended.{Outs}
use Rattle.hwdb_plan.specs.Plans.{Plan}
use Rattle.hwdb_spec_program.specs.ProgramPlan.{ShowsPlan, shown_plan}
use Rattle.hwdb_plan.specs.Requests.{Around}

-- the words have a plan, whatever a run is told beside its files; by whether its standard error is a terminal
pub record HavePlan (at_terminal : Bool) (words : List Text) : Type 0 where
  pub plan : Around → Plan
  pub is : (a : Around) → shown_plan at_terminal a words ≡ Some (plan a)

-- a device tells what it had
abbrev pub Tells : Told → Type 0
Tells device = (bytes : List ℕ) × (device.bytes ≡ Some bytes)

-- Two runs begin with the same words, over one file system and one sysfs, and their devices tell the same. Each shows what the plan of the
-- words ends in, and that is no error. Then they have one status, and both outputs take the same, whatever calls of standard input failed.
abbrev pub PlannedRunsAreOne : Type 0
PlannedRunsAreOne = (at_terminal : Bool) (words : List Text) (w : Reads) (sight : Sight) (input input_now input_now2 : Told) (before now now2 : Outs) (status status2 : ℕ)
    → HavePlan at_terminal words → Tells input → Tells before.err → Tells before.out
    → ShowsPlan (λ a. shown_plan at_terminal a words) w sight input input_now before now (Ok status)
    → ShowsPlan (λ a. shown_plan at_terminal a words) w sight input input_now2 before now2 (Ok status2)
    → (status ≡ status2) × (now.err.bytes ≡ now2.err.bytes) × (now.out.bytes ≡ now2.out.bytes)

-- One of two such runs ends with no error. Then the other one ends with one only for want of memory, or since an output failed. Or a
-- call of standard input failed.
abbrev pub PlannedDoneIsNoError : Type 0
PlannedDoneIsNoError = (at_terminal : Bool) (words : List Text) (w : Reads) (sight : Sight) (input input_now input_now2 : Told) (before now now2 : Outs) (status : ℕ) (r : Refusal)
    → HavePlan at_terminal words → Tells input → (HasFailed input.failures input_now2.failures → ⊥)
    → ShowsPlan (λ a. shown_plan at_terminal a words) w sight input input_now before now (Ok status)
    → ShowsPlan (λ a. shown_plan at_terminal a words) w sight input input_now2 before now2 (Err r)
    → (r ≡ Plain Memory) ⊎ (r ≡ Plain Write)
