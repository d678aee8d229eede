-- What the words of `scan` ask for is what its function follows.
use Rattle.std.proofs.Common.{subst, string_bytes, Bool, List, Option, Result, ℕ}
use Rattle.std.specs.Prelude.{codes}
use Rattle.clap.specs.Walk.{Row, Text, one_of}
use Rattle.hwdb_spec_commands.specs.DeviceTree.{Sight}
use Rattle.hwdb_spec_commands.specs.Jobs.{IsTask}
use Rattle.hwdb_spec_commands.specs.Runs.{Told}
use Rattle.hwdb_spec_commands.specs.Told.{Reads}
use Rattle.hwdb_spec_commands.specs.declared.args.ScanArgs.{ScanArgs}
use Rattle.hwdb_spec_commands.specs.declared.job.Task.TheVariants.{Scan}
use Rattle.hwdb_spec_commands.specs.declared.refusals.Refusal.{Refusal}
use Rattle.hwdb_spec_program.specs.ProgramPlan.{count_of}
use Rattle.hwdb_plan.specs.Scan.{scan_plan}
use Rattle.hwdb_plan.specs.Ended.{Outs, ShowsEnd}
use Rattle.hwdb_plan.specs.Plans.{Plan}
use Rattle.hwdb_tool.proofs.ProgramPlanLemmas.{At, alone, number_is, some_value}

module _ (w : Reads) (sight : Sight) (input_before input_now : Told) (before now : Outs) (result : Result ℕ Refusal) (root : List ℕ) (strict : Bool) (word : Text) (rows : List Row) where
  abbrev Shows : Plan → Type 0
  Shows p = ShowsEnd w p input_before input_now before now result

  pub scan_planned : (args : ScanArgs) → IsTask word rows (Scan args) → Shows (scan_plan root (string_bytes args.device) args.count) → At sight input_before input_now Shows root strict word rows
  scan_planned args is shows =
      alone sight input_before input_now Shows root strict word rows (codes "scan") is.0
      (subst (λ (d : Text). Shows (scan_plan root d (count_of rows))) (some_value (codes "DEVICE") rows _ is.1)
      (subst (λ (n : Option ℕ). Shows (scan_plan root (string_bytes args.device) n)) (number_is (one_of (codes "count") rows) args.count is.2) shows))
