-- What the words of `keys` ask for is what its function follows.
use Rattle.std.proofs.Common.{subst, map, string_bytes, Bool, List, Result, ℕ}
use Rattle.std.specs.Prelude.{codes}
use Rattle.clap.specs.Walk.{Row, Text}
use Rattle.hwdb_spec_commands.specs.DeviceTree.{Sight}
use Rattle.hwdb_spec_commands.specs.Jobs.{IsTask}
use Rattle.hwdb_spec_commands.specs.Runs.{Told}
use Rattle.hwdb_spec_commands.specs.Told.{Reads}
use Rattle.hwdb_spec_commands.specs.declared.args.KeysArgs.{KeysArgs}
use Rattle.hwdb_spec_commands.specs.declared.job.Task.TheVariants.{Keys}
use Rattle.hwdb_spec_commands.specs.declared.refusals.Refusal.{Refusal}
use Rattle.hwdb_spec_program.specs.ProgramPlan.{values_of}
use Rattle.hwdb_plan.specs.Keys.{keys_plan}
use Rattle.hwdb_plan.specs.Plans.{Follows, Plan}
use Rattle.hwdb_tool.specs.Views.{end_of}
use Rattle.hwdb_tool.specs.declared.answer.Answer.{Answer}
use Rattle.hwdb_tool.proofs.ProgramPlanLemmas.{At, alone}

module _ (w : Reads) (sight : Sight) (input_before input_now : Told) (root : List ℕ) (strict : Bool) (word : Text) (rows : List Row) (answer : Result Answer Refusal) where
  abbrev Answers : Plan → Type 0
  Answers p = Follows end_of w p answer

  pub keys_planned : (args : KeysArgs) → IsTask word rows (Keys args) → Follows end_of w (keys_plan args.json (map string_bytes args.words.items)) answer → At sight input_before input_now Answers root strict word rows
  keys_planned args is follows =
      alone sight input_before input_now Answers root strict word rows (codes "keys") is.0
      (subst (λ (j : Bool). Answers (keys_plan j (values_of (codes "WORD") rows))) is.1
      (subst (λ (ws : List Text). Answers (keys_plan args.json ws)) is.2 follows))
