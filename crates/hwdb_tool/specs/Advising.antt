-- What is said on a terminal if a task prints nothing, by the task.
use Rattle.std.specs.Prelude.{Bool, IfSome, List, [], ℕ, None, Option, codes, is_some, option_map, string_bytes}
use Rattle.clap.specs.Walk.{Row, Text}
use Rattle.hwdb_spec_commands.specs.Jobs.{IsTask}
use Rattle.hwdb_spec_commands.specs.declared.job.Task.{Task}
use Rattle.hwdb_spec_commands.specs.declared.job.Task.TheVariants.{Device, Explain, Near}
use Rattle.hwdb_spec_program.specs.DeviceErrors.{asked_names}
use Rattle.hwdb_spec_program.specs.ProgramPlan.{command}
use Rattle.hwdb_plan.specs.Advice.{advice_of}
use Rattle.hwdb_plan.specs.Lemmas.Answering.{OnlyAnswers}
use Rattle.hwdb_plan.specs.Requests.{Around, plan_of}

-- the line of a task, if it has one
abbrev pub task_advice : Task → Option (List ℕ)
task_advice (Explain e) = advice_of (codes "explain") (string_bytes e.device)
task_advice (Near n) = advice_of (codes "near") []
task_advice (Device d) = advice_of (codes "device") []
task_advice task = None

-- a task has one
abbrev pub is_advised : Task → Bool
is_advised task = is_some (task_advice task)

-- A task is whole if each plan of its words ends in one answer. So its texts can be kept until both are there.
unfoldable pub IsWholeTask : Task → Type 0
IsWholeTask task =
    (word : Text) (rows : List Row) → IsTask word rows task → (a : Around) (root : List ℕ) (strict : Bool)
    → IfSome (option_map (plan_of asked_names a) (command a.sight root strict word rows)) OnlyAnswers
