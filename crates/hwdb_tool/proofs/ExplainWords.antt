-- What the words of `explain` ask for is what its function follows.
use Rattle.std.proofs.Common.{◌≡◌, ◌∷◌, ap, refl, subst, sym, string_bytes, true≢false, Bool, IfSome, List, Option, None, Result, ℕ, [], true, false}
use Rattle.std.specs.Prelude.{codes, if◌then◌else◌, is_some, option_map}
use Rattle.clap.specs.Walk.{Row, Text}
use Rattle.hwdb_spec_commands.specs.DeviceTree.{Sight}
use Rattle.hwdb_spec_commands.specs.Given.{is_dash}
use Rattle.hwdb_spec_commands.specs.Jobs.{IsTask, has_flag}
use Rattle.hwdb_spec_commands.specs.Refusals.{refusal_line}
use Rattle.hwdb_spec_commands.specs.Runs.{Told}
use Rattle.hwdb_spec_commands.specs.Told.{Reads}
use Rattle.hwdb_spec_commands.specs.declared.args.ExplainArgs.{ExplainArgs}
use Rattle.hwdb_spec_commands.specs.declared.form.Form.TheVariants as form
use Rattle.hwdb_spec_commands.specs.declared.job.Task.{Task}
use Rattle.hwdb_spec_commands.specs.declared.job.Task.TheVariants.{Explain}
use Rattle.hwdb_spec_commands.specs.declared.refusals.Refusal.{Refusal}
use Rattle.hwdb_spec_program.specs.ProgramPlan.{value_of}
use Rattle.hwdb_plan.specs.Advice.{advice_of}
use Rattle.hwdb_plan.specs.Answers.{devices_plan, explain_plan}
use Rattle.hwdb_plan.specs.Ended.{Outs, ShowsEnd}
use Rattle.hwdb_plan.specs.Lemmas.Answering.{OnlyAnswers, only_answer}
use Rattle.hwdb_plan.specs.Plans.{Plan}
use Rattle.hwdb_tool.specs.Advising.{IsWholeTask, is_advised, task_advice}
use Rattle.hwdb_tool.proofs.ProgramPlanLemmas.{At, alone, command_plan, some_value}

module _ (w : Reads) (sight : Sight) (input_before input_now : Told) (before now : Outs) (result : Result ℕ Refusal) (root : List ℕ) (strict : Bool) (word : Text) (rows : List Row) where
  abbrev Shows : Plan → Type 0
  Shows p = ShowsEnd w p input_before input_now before now result

  pub explain_planned : (args : ExplainArgs) → IsTask word rows (Explain args) → Shows (explain_plan root args.json (string_bytes args.device)) → At sight input_before input_now Shows root strict word rows
  explain_planned args is shows =
      alone sight input_before input_now Shows root strict word rows (codes "explain") is.0
      (subst (λ (j : Bool). Shows (explain_plan root j (value_of (codes "MODALIAS") rows))) is.1
      (subst (λ (d : Text). Shows (explain_plan root args.json d)) (some_value (codes "MODALIAS") rows _ is.2) shows))

-- ---- what is said on a terminal if nothing is printed
-- The line by the words is the one by the task: of `explain` alone it goes by more than the command's name.
pub line_of_task : (task : Task) (word : Text) (rows : List Row) → IsTask word rows task → advice_of word (value_of (codes "MODALIAS") rows) ≡ task_advice task
line_of_task (Explain e) word rows is =
    subst (λ (n : Text). advice_of n (value_of (codes "MODALIAS") rows) ≡ task_advice (Explain e)) (sym is.0)
    (ap (λ (d : Text). advice_of (codes "explain") d) (sym (some_value (codes "MODALIAS") rows (string_bytes e.device) is.2)))
line_of_task task word rows is =
    subst (λ (n : Text). advice_of n (value_of (codes "MODALIAS") rows) ≡ task_advice task) (sym is.0) refl

of_devices : (b : Bool) (line : Option (List ℕ)) (root : List ℕ) (json : Bool) (devices : List (List ℕ)) → is_some (option_map refusal_line (if b then None else line)) ≡ true
    → OnlyAnswers (devices_plan b root (form.Explain json) devices)
of_devices true line root json devices some = absurd (true≢false (sym some))
of_devices false line root json devices some = only_answer root (form.Explain json) devices

pub explain_whole : (args : ExplainArgs) → is_advised (Explain args) ≡ true → IsWholeTask (Explain args)
unfolding IsWholeTask
explain_whole args some = λ word rows is a root strict.
    subst (λ (n : Text). IfSome (command_plan a root strict n rows) OnlyAnswers) (sym is.0)
    (of_devices (is_dash (value_of (codes "MODALIAS") rows)) _ root (has_flag (codes "json") rows) (value_of (codes "MODALIAS") rows ∷ [])
    (subst (λ (x : Text). is_some (advice_of (codes "explain") x) ≡ true) (some_value (codes "MODALIAS") rows (string_bytes args.device) is.2) some))
