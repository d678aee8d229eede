-- What the words of `query` ask for is what its function follows.
use Rattle.std.proofs.Common.{subst, map, string_bytes, Bool, List, Result, ℕ}
use Rattle.std.specs.Prelude.{codes}
use Rattle.clap.specs.Walk.{Row, Text}
use Rattle.hwdb_spec_commands.specs.DeviceTree.{Sight}
use Rattle.hwdb_spec_commands.specs.Jobs.{IsTask}
use Rattle.hwdb_spec_commands.specs.Runs.{Told}
use Rattle.hwdb_spec_commands.specs.Told.{Reads}
use Rattle.hwdb_spec_commands.specs.declared.args.QueryArgs.{QueryArgs}
use Rattle.hwdb_spec_commands.specs.declared.job.Task.TheVariants.{Query}
use Rattle.hwdb_spec_commands.specs.declared.refusals.Refusal.{Refusal}
use Rattle.hwdb_spec_program.specs.ProgramPlan.{values_of}
use Rattle.hwdb_plan.specs.Answers.{query_plan}
use Rattle.hwdb_plan.specs.Ended.{Outs, ShowsEnd}
use Rattle.hwdb_plan.specs.Plans.{Plan}
use Rattle.hwdb_tool.proofs.ProgramPlanLemmas.{At, alone, some_values}

module _ (w : Reads) (sight : Sight) (input_before input_now : Told) (before now : Outs) (result : Result ℕ Refusal) (root : List ℕ) (strict : Bool) (word : Text) (rows : List Row) where
  abbrev Shows : Plan → Type 0
  Shows p = ShowsEnd w p input_before input_now before now result

  pub query_planned : (args : QueryArgs) → IsTask word rows (Query args) → Shows (query_plan root args.json (map string_bytes args.devices.items)) → At sight input_before input_now Shows root strict word rows
  query_planned args is shows =
      alone sight input_before input_now Shows root strict word rows (codes "query") is.0
      (subst (λ (j : Bool). Shows (query_plan root j (values_of (codes "MODALIAS") rows))) is.1
      (subst (λ (ds : List Text). Shows (query_plan root args.json ds)) (some_values (codes "MODALIAS") rows _ is.2) shows))
