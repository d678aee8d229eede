-- What a job leaves that is an update, by its task.
use Rattle.std.specs.Prelude.{◌≡◌, ℕ, Result}
use Rattle.hwdb_spec_commands.specs.Runs.{Files, Told}
use Rattle.hwdb_spec_commands.specs.Told.{Reads}
use Rattle.hwdb_spec_commands.specs.declared.job.Job.{Job}
use Rattle.hwdb_spec_commands.specs.declared.args.UpdateArgs.{UpdateArgs}
use Rattle.hwdb_spec_commands.specs.declared.job.Task.TheVariants.{Update}
use Rattle.hwdb_spec_commands.specs.declared.refusals.Refusal.{Refusal}
use Rattle.hwdb_spec_program.specs.HidingPlan.{UpdatesTelling}
use Rattle.hwdb_spec_program.specs.Program.{root_of}

-- a job that is an update does what its plans end in
abbrev pub UpdatesAsAsked : Job → Reads → (before now : Files) (err_before err_now : Told) → Result ℕ Refusal → Type 0
UpdatesAsAsked job w before now err_before err_now result = (u : UpdateArgs) → job.task ≡ Update u
    → UpdatesTelling w (root_of job) job.usr job.strict u.verbose u.skip_unreadable before now err_before err_now result
