-- Which words have a plan. Our choice.
use Rattle.std.specs.Prelude.{◌≡◌, ◌⊎◌, List, Some, Bool}
use Rattle.clap.specs.Walk.{Text}
use Rattle.hwdb_spec_commands.specs.declared.job.Job.{Job}
use Rattle.hwdb_spec_program.specs.ProgramPlan.{AskedUpdate, update_of}
use Rattle.hwdb_spec_program.specs.Words.{AskFor}
use Rattle.hwdb_laws.specs.PlannedRuns.{HavePlan}

-- the words ask for an update, which has plans of its own
pub record HaveUpdate (words : List Text) : Type 0 where
  pub asked : AskedUpdate
  pub is : update_of words ≡ Some asked

-- words that ask for a job have a plan, or ask for an update
abbrev pub JobsArePlanned : Type 0
JobsArePlanned = (at_terminal : Bool) (words : List Text) (job : Job) → AskFor words job → HavePlan at_terminal words ⊎ HaveUpdate words

-- no words have both
abbrev pub NoneHaveBoth : Type 0
NoneHaveBoth = (at_terminal : Bool) (words : List Text) → HavePlan at_terminal words → HaveUpdate words → ⊥
