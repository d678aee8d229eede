-- What the words of `near` ask for is what its function follows.
use Rattle.std.proofs.Common.{◌≡◌, ◌∙◌, ◌+◌, ◌-◌, ◌∷◌, ◌++◌, arith, ap, refl, subst, sym, map, string_bytes, Bool, IfSome, List, Option, Result, ℕ, [], length, take}
use Rattle.std.specs.Prelude.{codes}
use Rattle.clap.specs.Walk.{Row, Text}
use Rattle.hwdb_spec_commands.specs.DeviceTree.{Sight, last_after}
use Rattle.hwdb_spec_commands.specs.Jobs.{IsTask, has_flag}
use Rattle.hwdb_spec_commands.specs.NearAsked.{near_form, near_limit}
use Rattle.hwdb_spec_commands.specs.Runs.{Told}
use Rattle.hwdb_spec_commands.specs.Told.{Reads}
use Rattle.hwdb_spec_commands.specs.declared.args.NearArgs.{NearArgs}
use Rattle.hwdb_spec_commands.specs.declared.job.Task.TheVariants.{Near}
use Rattle.hwdb_spec_commands.specs.declared.refusals.Refusal.{Refusal}
use Rattle.hwdb_spec_program.specs.ProgramPlan.{before_last, limit_of, values_of}
use Rattle.hwdb_plan.specs.Files.{OfInput}
use Rattle.hwdb_plan.specs.Lemmas.Answering.{OnlyAnswers, only_near}
use Rattle.hwdb_plan.specs.Near.{near_plan}
use Rattle.hwdb_plan.specs.Plans.{Follows, Plan}
use Rattle.hwdb_tool.specs.Advising.{IsWholeTask}
use Rattle.hwdb_tool.specs.Views.{end_of}
use Rattle.hwdb_tool.specs.declared.answer.Answer.{Answer}
use Rattle.hwdb_tool.proofs.ProgramPlanLemmas.{At, around, at_word, command_plan, limit_is, some_values}

-- texts before a last one
last_is : (first : Text) (files : List Text) (device : Text) → last_after first (files ++ device ∷ []) ≡ device
unfolding last_after
last_is first [] device = refl
last_is first (file ∷ more) device = last_is file more device

one_longer : (files : List Text) (device : Text) → length (files ++ device ∷ []) ≡ length files + 1
one_longer [] device = refl
one_longer (file ∷ more) device = let rest = one_longer more device in omega (arith, rest)

taken : (files : List Text) (device : Text) → take (length files) (files ++ device ∷ []) ≡ files
taken [] device = refl
taken (file ∷ more) device = ap (λ (l : List Text). file ∷ l) (taken more device)

pub before_is : (files : List Text) (device : Text) → before_last (files ++ device ∷ []) ≡ files
before_is files device =
    let long = one_longer files device in
    let short : length (files ++ device ∷ []) - 1 ≡ length files = omega (arith, long) in
    ap (λ (n : ℕ). take n (files ++ device ∷ [])) short ∙ taken files device

module _ (w : Reads) (sight : Sight) (input_before input_now : Told) (root : List ℕ) (strict : Bool) (word : Text) (rows : List Row) (answer : Result Answer Refusal) where
  abbrev Answers : Plan → Type 0
  Answers p = Follows end_of w p answer

  pub near_planned : (args : NearArgs) → IsTask word rows (Near args)
      → OfInput input_before.bytes input_before.failures input_now.failures (λ told. Follows end_of w (near_plan told (map string_bytes args.files.items) root (near_form args.json (string_bytes args.device) (near_limit args.limit))) answer) → At sight input_before input_now Answers root strict word rows
  near_planned args is (told, so, follows) =
      let fs = map string_bytes args.files.items in
      let d = string_bytes args.device in
      let words = values_of (codes "MODALIAS") rows in
      let are : fs ++ d ∷ [] ≡ words = some_values (codes "MODALIAS") rows (fs ++ d ∷ []) is.2 in
      let of_files : fs ≡ before_last words = sym (before_is fs d) ∙ ap before_last are in
      let of_device : d ≡ last_after [] words = sym (last_is [] fs d) ∙ ap (λ (ws : List Text). last_after [] ws) are in (
        told,
        so,
        (
          [],
          refl,
          at_word sight input_before input_now Answers root strict word rows (around sight told []) (codes "near") is.0
              (subst (λ (j : Bool). Answers (near_plan told (before_last words) root (near_form j (last_after [] words) (near_limit (limit_of rows))))) is.1
              (subst (λ (x : Text). Answers (near_plan told (before_last words) root (near_form args.json x (near_limit (limit_of rows))))) of_device
              (subst (λ (xs : List Text). Answers (near_plan told xs root (near_form args.json d (near_limit (limit_of rows))))) of_files
              (subst (λ (l : Option ℕ). Answers (near_plan told fs root (near_form args.json d (near_limit l)))) (limit_is rows args.limit is.3)
              follows)))),
        ),
      )

-- it ends in one answer
pub near_whole : (args : NearArgs) → IsWholeTask (Near args)
unfolding IsWholeTask
near_whole args = λ word rows is a root strict.
    subst (λ (n : Text). IfSome (command_plan a root strict n rows) OnlyAnswers) (sym is.0)
    (only_near a.input (before_last (values_of (codes "MODALIAS") rows)) root
    (near_form (has_flag (codes "json") rows) (last_after [] (values_of (codes "MODALIAS") rows)) (near_limit (limit_of rows))))
