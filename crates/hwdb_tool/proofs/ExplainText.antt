-- What `explain --text` says besides, and that no other command says anything.
use Rattle.std.proofs.Common.{◌≡◌, ◌∙◌, ◌∷◌, ◌++◌, ap, refl, subst, sym, map, string_bytes, Bool, List, Some, ℕ, [], true, false}
use Rattle.std.specs.Prelude.{codes, filter}
use Rattle.clap.specs.Walk.{Row, Text}
use Rattle.hwdb_compile.specs.Lemmas.Files.{same_assignments}
use Rattle.hwdb_compile.specs.Views.{ForFolders}
use Rattle.hwdb_text.specs.Views.{bytes_in, choice_in}
use Rattle.hwdb_text.specs.declared.choice.ChosenFile.{ChosenFile}
use Rattle.hwdb_spec.specs.Answers.{is_wanted}
use Rattle.hwdb_spec.specs.Assignment.{Assignment}
use Rattle.hwdb_spec.specs.Folders.{Choice, Source, all_assignments, chosen_of}
use Rattle.hwdb_spec.specs.Selected.{AreSelected}
use Rattle.hwdb_spec.specs.Store.{Contents}
use Rattle.hwdb_spec_commands.specs.Given.{is_dash}
use Rattle.hwdb_spec_commands.specs.Jobs.{IsTask, has_flag}
use Rattle.hwdb_spec_commands.specs.OverText.{said_besides, text_besides}
use Rattle.hwdb_spec_commands.specs.Once.{once}
use Rattle.hwdb_spec_commands.specs.Replacements.{Replacement, masked_form, replaced_form, replacements, replacements_for, replacements_form}
use Rattle.hwdb_spec_commands.specs.Status.{masked_paths}
use Rattle.hwdb_spec_commands.specs.Told.{Reads}
use Rattle.hwdb_spec_commands.specs.declared.form.Form.TheVariants as form
use Rattle.hwdb_spec_commands.specs.declared.job.Task.{Task}
use Rattle.hwdb_spec_commands.specs.declared.job.Task.TheVariants.{Explain}
use Rattle.hwdb_spec_program.specs.ProgramPlan.{said_by, value_of}
use Rattle.hwdb_plan.specs.Requests.{Around}
use Rattle.hwdb_plan.specs.Answers.{devices_plan, explain_plan}
use Rattle.hwdb_plan.specs.Folders.{Texts, with_texts}
use Rattle.hwdb_plan.specs.Laws.{OverIsNoMore}
use Rattle.hwdb_plan.specs.Lemmas.OverText.{asked_follows, none_follows}
use Rattle.hwdb_plan.specs.OverText.{is_first, replaced_of}
use Rattle.hwdb_plan.specs.Plans.{End, Ends, Plan, over, reads_over}
use Rattle.hwdb_plan.specs.Sides.{taken_from}
use Rattle.hwdb_plan.specs.TextLaws.{MayFollow}
use Rattle.hwdb_tool.specs.Internal.{AreReadOf}
use Rattle.hwdb_tool.specs.TextPlans.{besides_for}
use Rattle.hwdb_tool.proofs.FolderLemmas.{are_read}
use Rattle.hwdb_tool.proofs.ProgramPlanLemmas.{command_plan, some_value}
use Rattle.hwdb_tool.proofs.SidePlanLemmas.{are_taken}

-- ---- by the words
pub besides_is : (task : Task) (word : Text) (rows : List Row) → IsTask word rows task → (texts : Texts) → said_by word rows texts ≡ besides_for task texts
besides_is (Explain args) word rows is texts =
    let d = string_bytes args.device in
    subst (λ (n : Text). said_by n rows texts ≡ besides_for (Explain args) texts) (sym is.0)
    (sym (ap (λ (j : Bool). said_besides (is_dash d) (replaced_of j d texts)) is.1
    ∙ ap (λ (x : Text). said_besides (is_dash x) (replaced_of (has_flag (codes "json") rows) x texts)) (some_value (codes "MODALIAS") rows d is.2)))
besides_is task word rows is texts = subst (λ (n : Text). said_by n rows texts ≡ []) (sym is.0) refl

-- ---- by the text files
module _ (root : List ℕ) (seen : Contents) (listed : List (List ℕ)) (chosen : List Choice) (texts : List (List ℕ)) (files : List ChosenFile) (s : AreSelected root seen listed chosen texts)
    (choices : map choice_in files ≡ chosen) (bytes : map bytes_in files ≡ texts) where
  abbrev Etc : List Source
  Etc = taken_from true chosen texts

  abbrev Usr : List Source
  Usr = taken_from false chosen texts

  read_ : AreReadOf root seen listed files
  read_ = are_read root seen listed chosen texts files s choices bytes

  one_assigned : all_assignments read_.of_etc read_.of_usr ≡ all_assignments Etc Usr
  one_assigned = sym (same_assignments read_.of_etc read_.of_usr files read_.are) ∙ same_assignments Etc Usr files (are_taken root seen listed chosen texts s files choices bytes)

  one_besides : (task : Task) → text_besides task read_.of_etc read_.of_usr ≡ besides_for task (with_texts listed chosen texts)
  one_besides (Explain args) =
      let d = string_bytes args.device in
      ap (λ (l : List Assignment). said_besides (is_dash d) (replaced_form args.json d (Replaced d l) ++ masked_form args.json (masked_paths (map (λ (x : Source). x.name) read_.of_usr) (chosen_of read_.of_etc read_.of_usr)))) one_assigned
      ∙ ap (λ (l : List (List ℕ)). said_besides (is_dash d) (replaced_form args.json d (replacements_for d Etc Usr) ++ masked_form args.json (masked_paths l (chosen_of read_.of_etc read_.of_usr)))) read_.named
      ∙ ap (λ (cs : List Choice). said_besides (is_dash d) (replaced_form args.json d (replacements_for d Etc Usr) ++ masked_form args.json (masked_paths listed cs))) (sym read_.are.choices ∙ choices)
    where
      Replaced : List ℕ → List Assignment → List Replacement
      Replaced d l = replacements (once (filter (is_wanted d) l))
  one_besides task = refl

  pub said_is : (task : Task) (said : List ℕ) → ForFolders files (λ etc usr. map (λ (x : Source). x.name) usr ≡ listed → said ≡ text_besides task etc usr) → said ≡ besides_for task (with_texts listed chosen texts)
  said_is task said is = is read_.of_etc read_.of_usr read_.are read_.named ∙ one_besides task

-- ---- after an answer
one_some : (x y : Plan) → Some x ≡ Some y → x ≡ y
one_some x y is = cc

-- what `explain` says besides follows an answer, and no other task says anything
module _ (no_more : OverIsNoMore) (w : Reads) (root made : List ℕ) where
  pub explained_may : (task : Task) (word : Text) (rows : List Row) → IsTask word rows task → (a : Around) (at : List ℕ) (strict : Bool) (p : Plan) → command_plan a at strict word rows ≡ Some p
      → (etc usr : List Source) (text : List ℕ) → text ≡ text_besides task etc usr → (e : End) → Ends w (over (is_first root) made p) e → MayFollow text e
  explained_may (Explain args) word rows is a at strict p planned etc usr text of e ends = by (is_dash d) refl
    where
      d : Text
      d = value_of (codes "MODALIAS") rows

      j : Bool
      j = has_flag (codes "json") rows

      word_planned : command_plan a at strict (codes "explain") rows ≡ Some p
      word_planned = subst (λ (n : Text). command_plan a at strict n rows ≡ Some p) is.0 planned

      one_plan : explain_plan at j d ≡ p
      one_plan = one_some (explain_plan at j d) p word_planned

      below : Ends (reads_over (is_first root) made w) (devices_plan (is_dash d) at (form.Explain j) (d ∷ [])) e
      below = subst (λ (q : Plan). Ends (reads_over (is_first root) made w) q e) (sym one_plan) (no_more (is_first root) made w p e ends)

      one_device : d ≡ string_bytes args.device
      one_device = sym (some_value (codes "MODALIAS") rows (string_bytes args.device) is.2)

      by : (b : Bool) → is_dash d ≡ b → MayFollow text e
      by true dash = none_follows text e (of ∙ ap (λ (b : Bool). said_besides b (replacements_form args.json (string_bytes args.device) etc usr)) (ap is_dash (sym one_device) ∙ dash))
      by false dash =
          asked_follows text (form.Explain j) (d ∷ []) (reads_over (is_first root) made w) e at
          (subst (λ (b : Bool). Ends (reads_over (is_first root) made w) (devices_plan b at (form.Explain j) (d ∷ [])) e) dash below)
  explained_may task word rows is a at strict p planned etc usr text of e ends = none_follows text e of
