-- What the words of `list` ask for is what its function follows.
use Rattle.std.proofs.Common.{subst, string_bytes, Bool, List, Option, Result, ℕ}
use Rattle.std.specs.Prelude.{codes, option_map}
use Rattle.clap.specs.Walk.{Row, Text, first_of}
use Rattle.hwdb_spec_commands.specs.DeviceTree.{Sight}
use Rattle.hwdb_spec_commands.specs.Jobs.{IsTask}
use Rattle.hwdb_spec_commands.specs.Runs.{Told}
use Rattle.hwdb_spec_commands.specs.Told.{Reads}
use Rattle.hwdb_spec_commands.specs.declared.args.ListArgs.{ListArgs}
use Rattle.hwdb_spec_commands.specs.declared.job.Task.TheVariants.{List as ListHits}
use Rattle.hwdb_spec_commands.specs.declared.refusals.Refusal.{Refusal}
use Rattle.hwdb_spec_program.specs.ProgramPlan.{limit_of, value_of}
use Rattle.hwdb_plan.specs.Ended.{Outs, ShowsEnd}
use Rattle.hwdb_plan.specs.List.{list_plan}
use Rattle.hwdb_plan.specs.Plans.{Plan}
use Rattle.hwdb_tool.proofs.ProgramPlanLemmas.{At, alone, limit_is, some_value}

module _ (w : Reads) (sight : Sight) (input_before input_now : Told) (before now : Outs) (result : Result ℕ Refusal) (root : List ℕ) (strict : Bool) (word : Text) (rows : List Row) where
  abbrev Shows : Plan → Type 0
  Shows p = ShowsEnd w p input_before input_now before now result

  pub list_planned : (args : ListArgs) → IsTask word rows (ListHits args)
      → Shows (list_plan root args.json (string_bytes args.device) (option_map string_bytes args.after) args.limit) → At sight input_before input_now Shows root strict word rows
  list_planned args is shows =
      alone sight input_before input_now Shows root strict word rows (codes "list") is.0
      (subst (λ (j : Bool). Shows (list_plan root j (value_of (codes "MODALIAS") rows) (first_of (codes "after") rows) (limit_of rows))) is.1
      (subst (λ (d : Text). Shows (list_plan root args.json d (first_of (codes "after") rows) (limit_of rows))) (some_value (codes "MODALIAS") rows _ is.4)
      (subst (λ (a : Option Text). Shows (list_plan root args.json (string_bytes args.device) a (limit_of rows))) is.2
      (subst (λ (l : Option ℕ). Shows (list_plan root args.json (string_bytes args.device) (option_map string_bytes args.after) l)) (limit_is rows args.limit is.3) shows))))
