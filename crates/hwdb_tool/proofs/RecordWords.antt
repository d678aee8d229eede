-- What the words of `test --record` ask for is what its function follows.
use Rattle.std.proofs.Common.{◌≡◌, ap, refl, subst, sym, map, string_bytes, Bool, List, Option, Result, ℕ, [], false}
use Rattle.std.specs.Prelude.{codes, if◌then◌else◌, option_map}
use Rattle.clap.specs.Walk.{Row, Text, first_of}
use Rattle.hwdb_spec_commands.specs.DeviceTree.{Sight}
use Rattle.hwdb_spec_commands.specs.Given.{any_dash, is_input}
use Rattle.hwdb_spec_commands.specs.Jobs.{IsTask, has_flag}
use Rattle.hwdb_spec_commands.specs.Runs.{Told}
use Rattle.hwdb_spec_commands.specs.Told.{Reads}
use Rattle.hwdb_spec_commands.specs.declared.args.RecordArgs.{RecordArgs}
use Rattle.hwdb_spec_commands.specs.declared.job.Task.TheVariants.{Record}
use Rattle.hwdb_spec_commands.specs.declared.refusals.Refusal.{Refusal}
use Rattle.hwdb_spec_program.specs.ProgramPlan.{values_of}
use Rattle.hwdb_plan.specs.Files.{OfInput}
use Rattle.hwdb_plan.specs.Plans.{Follows, Plan}
use Rattle.hwdb_plan.specs.Record.{read_words, record_plan, record_request}
use Rattle.hwdb_plan.specs.Requests.{told_plan}
use Rattle.hwdb_plan.specs.Test.{test_request}
use Rattle.hwdb_tool.specs.Views.{end_of}
use Rattle.hwdb_tool.specs.declared.answer.Answer.{Answer}
use Rattle.hwdb_tool.proofs.ProgramPlanLemmas.{At, around, at_word, some_values}

-- no file is standard input if the words name the devices
pub none_read : (words : List (List ℕ)) → is_input words ≡ false → any_dash (read_words words) ≡ false
none_read words none = ap (λ (b : Bool). any_dash (if b then words else [])) none

module _ (w : Reads) (sight : Sight) (input_before input_now : Told) (root : List ℕ) (strict : Bool) (word : Text) (rows : List Row) (answer : Result Answer Refusal) where
  abbrev Answers : Plan → Type 0
  Answers p = Follows end_of w p answer

  pub record_planned : (args : RecordArgs) → IsTask word rows (Record args)
      → OfInput input_before.bytes input_before.failures input_now.failures (λ told. Follows end_of w (record_plan told args.json (map string_bytes args.devices.items) (option_map string_bytes args.database) root) answer) → At sight input_before input_now Answers root strict word rows
  record_planned args is (told, so, follows) =
      let words = values_of (codes "FILE") rows in
      let database = first_of (codes "database") rows in
      let json = has_flag (codes "json") rows in (
        told,
        so,
        (
          [],
          refl,
          at_word sight input_before input_now Answers root strict word rows (around sight told []) (codes "test") is.0
              (subst (λ (b : Bool). Answers (told_plan told (if b then record_request json words database root else test_request words database root json))) (sym is.1)
              (subst (λ (j : Bool). Answers (record_plan told j words database root)) is.2
              (subst (λ (d : Option Text). Answers (record_plan told args.json words d root)) is.3
              (subst (λ (ds : List Text). Answers (record_plan told args.json ds (option_map string_bytes args.database) root)) (some_values (codes "FILE") rows _ is.4)
              follows)))),
        ),
      )
