-- What the words of `diff` ask for is what its function follows.
use Rattle.std.proofs.Common.{◌≡◌, ◌∙◌, refl, subst, map, string_bytes, Bool, List, Result, ℕ, []}
use Rattle.std.specs.Prelude.{codes}
use Rattle.clap.specs.Walk.{Row, Text}
use Rattle.hwdb_spec_commands.specs.DeviceTree.{Sight}
use Rattle.hwdb_spec_commands.specs.Jobs.{IsTask, text_if}
use Rattle.hwdb_spec_commands.specs.Reviews.{Review, review_in}
use Rattle.hwdb_spec_commands.specs.Runs.{Told}
use Rattle.hwdb_spec_commands.specs.Told.{Reads}
use Rattle.hwdb_spec_commands.specs.declared.args.DiffArgs.{DiffArgs}
use Rattle.hwdb_spec_commands.specs.declared.job.Task.TheVariants.{Diff}
use Rattle.hwdb_spec_commands.specs.declared.refusals.Refusal.{Refusal}
use Rattle.hwdb_spec_commands.specs.declared.unread.Unread.{Unread}
use Rattle.hwdb_spec_program.specs.GivenDatabases.{names_twice, twice_text}
use Rattle.hwdb_spec_program.specs.ProgramPlan.{value_of, values_of}
use Rattle.hwdb_plan.specs.Diff.{change_of, diff_plan}
use Rattle.hwdb_plan.specs.OverText.{if_fit}
use Rattle.hwdb_plan.specs.Files.{OfInput}
use Rattle.hwdb_plan.specs.Plans.{Follows, Plan}
use Rattle.hwdb_tool.specs.Views.{end_of}
use Rattle.hwdb_tool.specs.declared.answer.Answer.{Answer}
use Rattle.hwdb_tool.proofs.ProgramPlanLemmas.{At, around, at_word, some_value}

-- ---- the plan of `diff`
abbrev diff_once : (told : Result (List ℕ) Unread) (given : List Text) (old new : Text) → Review → Plan
diff_once told given old new r = if_fit (text_if (names_twice given old new) twice_text) (diff_plan told given old new (change_of r))

module _ (w : Reads) (sight : Sight) (input_before input_now : Told) (root : List ℕ) (strict : Bool) (word : Text) (rows : List Row) (answer : Result Answer Refusal) where
  abbrev Answers : Plan → Type 0
  Answers p = Follows end_of w p answer

  pub diff_planned : (args : DiffArgs) → IsTask word rows (Diff args)
      → (given : List Text) (o n : Text) → given ≡ map string_bytes args.devices.items → o ≡ string_bytes args.old → n ≡ string_bytes args.new
      → OfInput input_before.bytes input_before.failures input_now.failures (λ told. Follows end_of w (diff_once told given o n (review_in args.review)) answer) → At sight input_before input_now Answers root strict word rows
  diff_planned args is given o n of_given of_old of_new (told, so, follows) =
      let old_is : o ≡ value_of (codes "OLD") rows = of_old ∙ some_value (codes "OLD") rows (string_bytes args.old) is.3 in
      let new_is : n ≡ value_of (codes "NEW") rows = of_new ∙ some_value (codes "NEW") rows (string_bytes args.new) is.4 in
      let o2 = value_of (codes "OLD") rows in
      let n2 = value_of (codes "NEW") rows in
      let r = review_in args.review in (
        told,
        so,
        (
          [],
          refl,
          at_word sight input_before input_now Answers root strict word rows (around sight told []) (codes "diff") is.0
              (subst (λ (q : Review). Answers (diff_once told (values_of (codes "devices") rows) o2 n2 q)) is.1
              (subst (λ (ds : List Text). Answers (diff_once told ds o2 n2 r)) (of_given ∙ is.2)
              (subst (λ (x : Text). Answers (diff_once told given x n2 r)) old_is
              (subst (λ (x : Text). Answers (diff_once told given o x r)) new_is follows)))),
        ),
      )
