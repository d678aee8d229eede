-- What errors two runs with the same words end in, if the words have a plan. Our choice.
use Rattle.std.specs.Prelude.{◌≡◌, ◌≢◌, ◌⊎◌, List, Option, Err, ℕ, Bool}
use Rattle.clap.specs.Walk.{Text}
use Rattle.hwdb_spec.specs.Failures.{HasFailed}
use Rattle.hwdb_spec.specs.declared.causes.Cause.{Cause}
use Rattle.hwdb_spec.specs.declared.errors.ToolError.{ToolError}
use Rattle.hwdb_spec.specs.declared.errors.ToolError.TheVariants.{Memory, Write}
use Rattle.hwdb_spec_commands.specs.DeviceAsked.{missing_text, no_sysfs_text, unread_text}
use Rattle.hwdb_spec_commands.specs.DeviceTree.{Sight}
use Rattle.hwdb_spec_commands.specs.Runs.{Told}
use Rattle.hwdb_spec_commands.specs.Told.{Reads, stop_of}
use Rattle.hwdb_spec_commands.specs.Told.Stop.{Over, Says}
use Rattle.hwdb_spec_commands.specs.declared.refusals.Refusal.{Refusal}
use Rattle.hwdb_spec_commands.specs.declared.refusals.Refusal.TheVariants.{Plain}
use Rattle.hwdb_plan.specs.Ended.{Outs}
use Rattle.hwdb_plan.specs.Laws.{AreAlike}
use Rattle.hwdb_plan.specs.Plans.{End}
use Rattle.hwdb_plan.specs.Plans.End.{Stops}
use Rattle.hwdb_spec_program.specs.DeviceErrors.{asked_names}
use Rattle.hwdb_spec_program.specs.ProgramPlan.{ShowsPlan, shown_plan}
use Rattle.hwdb_laws.specs.PlannedRuns.{HavePlan, Tells}

-- an error comes of what is read: there was memory, both outputs took what they were given, and no call of standard input failed
pub record IsOfReading (input_before input_now : Told) (r : Refusal) : Type 0 where
  pub memory : r ≢ Plain Memory
  pub outputs : r ≢ Plain Write
  pub input : HasFailed input_before.failures input_now.failures → ⊥

-- two texts of `device` say the same of sysfs, each with the system's words of a cause
abbrev pub AreButForCause : (text text2 : List ℕ) → Type 0
AreButForCause text text2 = (cause cause2 : List ℕ) × (
    ((path : List ℕ) × (text ≡ no_sysfs_text path cause) × (text2 ≡ no_sysfs_text path cause2))
    ⊎ (((path : List ℕ) × (text ≡ unread_text path cause) × (text2 ≡ unread_text path cause2))
    ⊎ ((sight : Sight) × (root sys given : List ℕ) × (text ≡ missing_text sight asked_names root sys given cause) × (text2 ≡ missing_text sight asked_names root sys given cause2))))

-- two ends say that of sysfs
abbrev pub SayOfSysfs : (e f : End) → Type 0
SayOfSysfs e f = (text text2 : List ℕ) × (e ≡ Stops (Says text)) × (f ≡ Stops (Says text2)) × AreButForCause text text2

-- two ends say the same of one path, each with the system's cause
abbrev pub SayOfPath : (e f : End) → Type 0
SayOfPath e f = (error : ToolError) × (path : List ℕ) × (cause cause2 : Option Cause) × (e ≡ Stops (Over error path cause)) × (f ≡ Stops (Over error path cause2))

-- Two ends are one, but for which fault of one database is told, or which reason of files that are too much for one. The words of a cause
-- are the system's, too.
abbrev pub AreOneEnd : (e f : End) → Type 0
AreOneEnd e f = AreAlike e f ⊎ (SayOfSysfs e f ⊎ SayOfPath e f)

-- so of two errors
abbrev pub AreOneError : (r r2 : Refusal) → Type 0
AreOneError r r2 = AreOneEnd (Stops (stop_of r)) (Stops (stop_of r2))

-- Two runs begin with the same words, over one file system and one sysfs, and their devices tell the same. Each ends with an error that comes
-- of what is read. Then they have one error, and both outputs have the same.
abbrev pub PlannedErrorsAreOne : Type 0
PlannedErrorsAreOne = (at_terminal : Bool) (words : List Text) (w : Reads) (sight : Sight) (input input_now input_now2 : Told) (before now now2 : Outs) (r r2 : Refusal)
    → HavePlan at_terminal words → Tells input → Tells before.out
    → IsOfReading input input_now r → IsOfReading input input_now2 r2
    → ShowsPlan (λ a. shown_plan at_terminal a words) w sight input input_now before now (Err r)
    → ShowsPlan (λ a. shown_plan at_terminal a words) w sight input input_now2 before now2 (Err r2)
    → AreOneError r r2 × (now.err ≡ now2.err) × (now.out.bytes ≡ now2.out.bytes)
