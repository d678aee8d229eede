-- What the words of `check` ask for is what its function follows.
use Rattle.std.proofs.Common.{refl, subst, map, string_bytes, Bool, List, Option, Result, ℕ, []}
use Rattle.std.specs.Prelude.{codes, option_map}
use Rattle.clap.specs.Walk.{Row, Text, first_of}
use Rattle.hwdb_spec_commands.specs.DeviceTree.{Sight}
use Rattle.hwdb_spec_commands.specs.Jobs.{IsTask, has_flag}
use Rattle.hwdb_spec_commands.specs.Runs.{Told}
use Rattle.hwdb_spec_commands.specs.Told.{Reads}
use Rattle.hwdb_spec_commands.specs.declared.args.CheckArgs.{CheckArgs}
use Rattle.hwdb_spec_commands.specs.declared.job.Task.TheVariants.{Check}
use Rattle.hwdb_spec_commands.specs.declared.refusals.Refusal.{Refusal}
use Rattle.hwdb_spec_commands.specs.declared.unread.Unread.{Unread}
use Rattle.hwdb_spec_program.specs.ProgramPlan.{values_of}
use Rattle.hwdb_plan.specs.Check.{asked_plan, said_of}
use Rattle.hwdb_plan.specs.Files.{OfInput}
use Rattle.hwdb_plan.specs.Plans.{Follows, Plan}
use Rattle.hwdb_tool.specs.CheckAsked.{say_of}
use Rattle.hwdb_tool.specs.Views.{end_of}
use Rattle.hwdb_tool.specs.declared.answer.Answer.{Answer}
use Rattle.hwdb_spec_commands.specs.Patches.{format_asked}
use Rattle.hwdb_spec_commands.specs.declared.formats.Format.{Format}
use Rattle.hwdb_tool.proofs.ProgramPlanLemmas.{At, around, at_word}

-- ---- the plan of `check`
abbrev pub check_as : (told : Result (List ℕ) Unread) (root : Text) (strict rules : Bool) (files : List Text) (name baseline : Option Text) → Format → (allowed : List Text) → Plan
check_as told root strict rules files name baseline format allowed = asked_plan told rules files root name baseline (said_of format strict allowed)

module _ (w : Reads) (sight : Sight) (input_before input_now : Told) (root : List ℕ) (strict : Bool) (word : Text) (rows : List Row) (answer : Result Answer Refusal) where
  abbrev Answers : Plan → Type 0
  Answers p = Follows end_of w p answer

  pub check_planned : (args : CheckArgs) → IsTask word rows (Check args)
      → OfInput input_before.bytes input_before.failures input_now.failures (λ told. Follows end_of w
      (asked_plan told args.rules (map string_bytes args.files.items) root (option_map string_bytes args.name) (option_map string_bytes args.baseline) (say_of args strict)) answer)
      → At sight input_before input_now Answers root strict word rows
  check_planned args is (told, so, follows) =
      let fs = map string_bytes args.files.items in
      let n = option_map string_bytes args.name in
      let b = option_map string_bytes args.baseline in
      let form = format_asked args.diff args.json (option_map string_bytes args.format) in
      let kinds = map string_bytes args.allowed.items in
      let rules2 = has_flag (codes "rules") rows in
      let fs2 = values_of (codes "FILE") rows in
      let n2 = first_of (codes "name") rows in
      let b2 = first_of (codes "baseline") rows in
      let kinds2 = values_of (codes "allow") rows in (
        told,
        so,
        (
          [],
          refl,
          at_word sight input_before input_now Answers root strict word rows (around sight told []) (codes "check") is.0
              (subst (λ (d : Bool). Answers (check_as told root strict rules2 fs2 n2 b2 (format_asked d (has_flag (codes "json") rows) (first_of (codes "format") rows)) kinds2)) is.7
              (subst (λ (j : Bool). Answers (check_as told root strict rules2 fs2 n2 b2 (format_asked args.diff j (first_of (codes "format") rows)) kinds2)) is.3
              (subst (λ (f : Option Text). Answers (check_as told root strict rules2 fs2 n2 b2 (format_asked args.diff args.json f) kinds2)) is.4
              (subst (λ (x : Option Text). Answers (check_as told root strict rules2 fs2 x b2 form kinds2)) is.5
              (subst (λ (x : Option Text). Answers (check_as told root strict rules2 fs2 n x form kinds2)) is.6
              (subst (λ (ks : List Text). Answers (check_as told root strict rules2 fs2 n b form ks)) is.2
              (subst (λ (xs : List Text). Answers (check_as told root strict rules2 xs n b form kinds)) is.1
              (subst (λ (r : Bool). Answers (check_as told root strict r fs n b form kinds)) is.8 follows)))))))),
        ),
      )
