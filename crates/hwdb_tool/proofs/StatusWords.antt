-- What the words of `status` ask for, and of `update --check`, is what its function follows. `update` without that has no plan.
use Rattle.std.proofs.Common.{◌∷◌, subst, sym, Bool, IfSome, List, Option, Result, Err, ℕ, [], true, false}
use Rattle.std.specs.Prelude.{codes, find, if◌then◌else◌, option_map}
use Rattle.std.specs.Str.{bytes_eq}
use Rattle.clap.specs.Walk.{Row, Text}
use Rattle.hwdb_spec_commands.specs.DeviceTree.{Sight}
use Rattle.hwdb_spec_commands.specs.Jobs.{IsTask}
use Rattle.hwdb_spec_commands.specs.Runs.{Told}
use Rattle.hwdb_spec_commands.specs.Told.{Reads}
use Rattle.hwdb_spec_commands.specs.declared.args.StatusArgs.{StatusArgs}
use Rattle.hwdb_spec_commands.specs.declared.args.UpdateArgs.{UpdateArgs}
use Rattle.hwdb_spec_commands.specs.declared.job.Task.TheVariants.{Fresh, Status, Update}
use Rattle.hwdb_spec_commands.specs.declared.refusals.Refusal.{Refusal}
use Rattle.hwdb_spec_commands.specs.declared.unread.Unread.TheVariants as unread
use Rattle.hwdb_spec_program.specs.DeviceErrors.{asked_names}
use Rattle.hwdb_plan.specs.Requests.{Command, plan_of}
use Rattle.hwdb_plan.specs.Requests.Command.{OfFiles}
use Rattle.hwdb_plan.specs.Requests.Request.{Alone}
use Rattle.hwdb_plan.specs.Plans.{Follows, Plan}
use Rattle.hwdb_plan.specs.Status.{status_plan}
use Rattle.hwdb_tool.specs.Views.{end_of}
use Rattle.hwdb_tool.specs.declared.answer.Answer.{Answer}
use Rattle.hwdb_tool.proofs.ProgramPlanLemmas.{At, alone, around}

-- with `--check` the word is `update`
abbrev fresh_plan : Sight → (root : List ℕ) → Bool → Option Plan
fresh_plan sight root b = option_map (plan_of asked_names (around sight (Err unread.Memory) []))
    (option_map (λ (row : Text × Command). row.1) (find (λ (row : Text × Command). bytes_eq row.0 (codes "update")) (if b then (codes "update", OfFiles (Alone (status_plan root false true))) ∷ [] else [])))

pub update_unplanned : (sight : Sight) (input_before input_now : Told) (Is : Plan → Type 0) (root : List ℕ) (strict : Bool) (word : Text) (rows : List Row) (args : UpdateArgs) → IsTask word rows (Update args)
    → At sight input_before input_now Is root strict word rows
update_unplanned sight input_before input_now Is root strict word rows args is =
    alone sight input_before input_now Is root strict word rows (codes "update") is.0
    (subst (λ (b : Bool). IfSome (fresh_plan sight root b) Is) (sym is.1) tt)

module _ (w : Reads) (sight : Sight) (input_before input_now : Told) (root : List ℕ) (strict : Bool) (word : Text) (rows : List Row) (answer : Result Answer Refusal) where
  abbrev Answers : Plan → Type 0
  Answers p = Follows end_of w p answer

  pub status_planned : (args : StatusArgs) → IsTask word rows (Status args) → Answers (status_plan root args.json false) → At sight input_before input_now Answers root strict word rows
  status_planned args is follows =
      alone sight input_before input_now Answers root strict word rows (codes "status") is.0
      (subst (λ (j : Bool). Answers (status_plan root j false)) is.1 follows)

  pub fresh_planned : IsTask word rows Fresh → Answers (status_plan root false true) → At sight input_before input_now Answers root strict word rows
  fresh_planned is follows =
      alone sight input_before input_now Answers root strict word rows (codes "update") is.0
      (subst (λ (b : Bool). IfSome (fresh_plan sight root b) Answers) (sym is.1) follows)
