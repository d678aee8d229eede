-- What the words of `verify` ask for is what its function follows.
use Rattle.std.proofs.Common.{refl, subst, string_bytes, Bool, List, Option, Result, ℕ, []}
use Rattle.std.specs.Prelude.{codes, option_map}
use Rattle.clap.specs.Walk.{Row, Text}
use Rattle.hwdb_spec_commands.specs.DeviceTree.{Sight}
use Rattle.hwdb_spec_commands.specs.Jobs.{IsTask}
use Rattle.hwdb_spec_commands.specs.Runs.{Told}
use Rattle.hwdb_spec_commands.specs.Told.{Reads}
use Rattle.hwdb_spec_commands.specs.declared.args.VerifyArgs.{VerifyArgs}
use Rattle.hwdb_spec_commands.specs.declared.job.Task.TheVariants.{Verify}
use Rattle.hwdb_spec_commands.specs.declared.refusals.Refusal.{Refusal}
use Rattle.hwdb_plan.specs.Given.{given_or_asked}
use Rattle.hwdb_plan.specs.Input.{OverNamed}
use Rattle.hwdb_plan.specs.Plans.{Ends, Follows, Plan}
use Rattle.hwdb_plan.specs.Verify.{summary, verify_plan}
use Rattle.hwdb_tool.specs.Views.{end_of}
use Rattle.hwdb_tool.specs.declared.answer.Answer.{Answer}
use Rattle.hwdb_tool.proofs.ProgramPlanLemmas.{AsksNothing, At, around, at_word, named_follows}

summary_asks_nothing : AsksNothing summary
unfolding Ends
summary_asks_nothing w x path bytes e ends = ends

module _ (w : Reads) (sight : Sight) (input_before input_now : Told) (root : List ℕ) (strict : Bool) (word : Text) (rows : List Row) (answer : Result Answer Refusal) where
  abbrev Answers : Plan → Type 0
  Answers p = Follows end_of w p answer

  pub verify_planned : (args : VerifyArgs) → IsTask word rows (Verify args)
      → OverNamed (option_map string_bytes args.database) input_before.bytes input_before.failures input_now.failures w (λ g reads. Follows end_of reads (verify_plan g root) answer) → At sight input_before input_now Answers root strict word rows
  verify_planned args is over =
      let given = option_map string_bytes args.database in
      let by = named_follows end_of w input_before.bytes input_before.failures input_now.failures summary summary_asks_nothing answer root given over in
      let told = by.0 in (
        told,
        by.1,
        (
          [],
          refl,
          at_word sight input_before input_now Answers root strict word rows (around sight told []) (codes "verify") is.0
              (subst (λ (g : Option Text). Answers (given_or_asked told g root summary)) is.1 by.2),
        ),
      )
