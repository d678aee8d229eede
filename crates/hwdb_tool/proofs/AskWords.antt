-- What the words of `ask` ask for is what its function follows.
use Rattle.std.proofs.Common.{refl, subst, string_bytes, Bool, List, Result, ℕ, []}
use Rattle.std.specs.Prelude.{codes}
use Rattle.clap.specs.Walk.{Row, Text}
use Rattle.hwdb_spec_commands.specs.DeviceTree.{Sight}
use Rattle.hwdb_spec_commands.specs.Given.{is_dash}
use Rattle.hwdb_spec_commands.specs.Jobs.{IsTask}
use Rattle.hwdb_spec_commands.specs.Runs.{Told}
use Rattle.hwdb_spec_commands.specs.Told.{Reads}
use Rattle.hwdb_spec_commands.specs.declared.args.AskArgs.{AskArgs}
use Rattle.hwdb_spec_commands.specs.declared.job.Task.TheVariants.{Ask}
use Rattle.hwdb_spec_commands.specs.declared.refusals.Refusal.{Refusal}
use Rattle.hwdb_spec_program.specs.ProgramPlan.{value_of}
use Rattle.hwdb_plan.specs.Ask.{ask_plan, lone_answer}
use Rattle.hwdb_plan.specs.Given.{given_at}
use Rattle.hwdb_plan.specs.Input.{OverGiven}
use Rattle.hwdb_plan.specs.Plans.{Ends, Follows, Plan}
use Rattle.hwdb_tool.specs.Views.{end_of}
use Rattle.hwdb_tool.specs.declared.answer.Answer.{Answer}
use Rattle.hwdb_tool.proofs.ProgramPlanLemmas.{AsksNothing, At, around, at_word, given_follows, some_value}

lone_asks_nothing : (file device : List ℕ) → AsksNothing (lone_answer file device)
unfolding Ends
lone_asks_nothing file device w x path bytes e ends = ends

module _ (w : Reads) (sight : Sight) (input_before input_now : Told) (root : List ℕ) (strict : Bool) (word : Text) (rows : List Row) (answer : Result Answer Refusal) where
  abbrev Answers : Plan → Type 0
  Answers p = Follows end_of w p answer

  pub ask_planned : (args : AskArgs) → IsTask word rows (Ask args)
      → OverGiven (is_dash (string_bytes args.file)) (string_bytes args.file) input_before.bytes input_before.failures input_now.failures w
      (λ path reads. Follows end_of reads (ask_plan (string_bytes args.file) (string_bytes args.device) path) answer) → At sight input_before input_now Answers root strict word rows
  ask_planned args is over =
      let f = string_bytes args.file in
      let d = string_bytes args.device in
      let given = given_follows end_of w input_before.bytes input_before.failures input_now.failures (lone_answer f d) (lone_asks_nothing f d) answer (is_dash f) f refl over in
      let told = given.0 in (
        told,
        given.1,
        (
          [],
          refl,
          at_word sight input_before input_now Answers root strict word rows (around sight told []) (codes "ask") is.0
              (subst (λ (x : Text). Answers (given_at told x (lone_answer x (value_of (codes "MODALIAS") rows)))) (some_value (codes "FILE") rows f is.1)
              (subst (λ (x : Text). Answers (given_at told f (lone_answer f x))) (some_value (codes "MODALIAS") rows d is.2)
              given.2)),
        ),
      )
