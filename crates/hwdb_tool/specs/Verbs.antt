-- What a command does whose words ask for a job: what it prints is what the plan of these words ends in.
use Rattle.std.specs.Prelude.{IfSome, List, Result, ℕ}
use Rattle.hwdb_plan.specs.Ended.{Outs}
use Rattle.hwdb_plan.specs.Plans.{Follows}
use Rattle.hwdb_spec_commands.specs.DeviceTree.{Sight}
use Rattle.hwdb_spec_commands.specs.Runs.{Told}
use Rattle.hwdb_spec_commands.specs.Told.{Reads}
use Rattle.hwdb_spec_commands.specs.declared.job.Job.{Job}
use Rattle.hwdb_spec_commands.specs.declared.refusals.Refusal.{Refusal}
use Rattle.hwdb_spec_program.specs.ProgramPlan.{OfAround, ShowsPlan, files_plan}
use Rattle.hwdb_spec_program.specs.Words.{AskFor}
use Rattle.hwdb_tool.specs.Views.{end_of}
use Rattle.hwdb_tool.specs.declared.answer.Answer.{Answer}

-- the answer is what the plan of any words ends in that ask for the job, over the files as they are
abbrev pub AnswersAsked : Job → Reads → Sight → (input_before input_now : Told) → Result Answer Refusal → Type 0
AnswersAsked job w sight input_before input_now answer = (words : List (List ℕ)) → AskFor words job
    → OfAround sight input_before.bytes input_before.failures input_now.failures (λ a. IfSome (files_plan a words) (λ p. Follows end_of w p answer))

-- the run shows what it ends in
abbrev pub ShowsAsked : Job → Reads → Sight → (input_before input_now : Told) (before now : Outs) → Result ℕ Refusal → Type 0
ShowsAsked job w sight input_before input_now before now result = (words : List (List ℕ)) → AskFor words job → ShowsPlan (λ a. files_plan a words) w sight input_before input_now before now result
