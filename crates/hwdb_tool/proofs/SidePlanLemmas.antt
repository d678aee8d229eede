-- What text files make, as the functions that read a side of `diff`, or what `status` tells, follow their plans.
use Rattle.std.proofs.Common.{◌≡◌, ◌≤◌, ◌∙◌, ◌∷◌, ◌++◌, [], ap, sym, subst, false, true, List, Option, Some, Result, Ok, Err, IfErr, IfOk, ℕ, Vec, Global, drop, get_or, length, map, All}
use Rattle.std.proofs.lemmas.List.{length-map}
use Rattle.std.proofs.lemmas.List.Elements.{All-cons, All-nil}
use Rattle.hwdb_compile.specs.Views.{AreChosenOf}
use Rattle.hwdb_spec.specs.Folders.{Choice, Source, choice, chosen_of, contents, max_files, names, path_of}
use Rattle.hwdb_spec.specs.Selected.{AreSelected}
use Rattle.hwdb_spec.specs.Store.{Contents}
use Rattle.hwdb_spec.specs.System.{bytes_at}
use Rattle.hwdb_spec_commands.specs.StatusErrors.{IsNotCompiled}
use Rattle.hwdb_spec_commands.specs.Told.{Reads}
use Rattle.hwdb_spec_commands.specs.declared.refusals.Refusal.{Refusal}
use Rattle.hwdb_plan.specs.Lemmas.Sides.{made_reached}
use Rattle.hwdb_plan.specs.Plans.{ReachesValue}
use Rattle.hwdb_plan.specs.Sides.{made_of, taken_from}
use Rattle.hwdb_text.specs.Views.{bytes_in, choice_in}
use Rattle.hwdb_text.specs.declared.choice.ChosenFile.{ChosenFile}
use Rattle.hwdb_tool.specs.Statuses.{AreMadeOf}
use Rattle.hwdb_tool.proofs.TakenLemmas.{read_chosen, read_held}

abbrev pub items : Vec ℕ Global → List ℕ
items v = v.items

-- they make a database, or are too much for one
pub side_made : (w : Reads) (etc usr : List Source) (result : Result (Vec ℕ Global) Refusal) → IfOk result (λ b. AreMadeOf etc usr b.items) → IfErr result (IsNotCompiled etc usr)
    → ReachesValue items w (made_of etc usr) result
side_made w etc usr (Ok b) made not =
    made_reached w items etc usr (Ok b) (record { accepted = made.accepted; written = made.written; sound = made.database; within = made.within }) not
side_made w etc usr (Err r) made not = made_reached w items etc usr (Err r) made not

-- ---- chosen files of both folders
each_has : (read : Choice → List ℕ) (files : List ChosenFile) → map bytes_in files ≡ map read (map choice_in files) → All (λ f. bytes_in f ≡ read (choice_in f)) files
each_has read [] are = All-nil (λ f. bytes_in f ≡ read (choice_in f))
each_has read (f ∷ files) are =
    All-cons (λ g. bytes_in g ≡ read (choice_in g)) f files (ap (λ (l : List (List ℕ)). get_or l 0 []) are) (each_has read files (ap (drop 1) are))

module _ (root : List ℕ) (seen : Contents) (usr : List (List ℕ)) (chosen : List Choice) (texts : List (List ℕ)) (s : AreSelected root seen usr chosen texts) where
  abbrev at : Choice → Option (List ℕ)
  at c = bytes_at seen (root ++ path_of c)

  abbrev Etc : List Choice → List Source
  Etc cs = taken_from true cs texts

  abbrev Usr : List Choice → List Source
  Usr cs = taken_from false cs texts

  here : map Some texts ≡ map at (choice s.etc usr)
  here = s.read ∙ ap (map at) s.is

  pub taken_chosen : chosen_of (Etc chosen) (Usr chosen) ≡ chosen
  taken_chosen = ap (λ (cs : List Choice). chosen_of (Etc cs) (Usr cs)) s.is ∙ read_chosen s.etc usr at texts here ∙ sym s.is

  pub taken_held : map (contents (Etc chosen) (Usr chosen)) chosen ≡ texts
  taken_held = ap (λ (cs : List Choice). map (contents (Etc cs) (Usr cs)) cs) s.is ∙ read_held s.etc usr at texts here

  taken_few : length (chosen_of (Etc chosen) (Usr chosen)) ≤ max_files
  taken_few = subst (λ (n : ℕ). n ≤ max_files) (sym (length-map (names s.etc usr) _) ∙ ap length (sym s.is) ∙ ap length (sym taken_chosen)) s.few

  -- as they were read, they are those that are taken from each
  pub are_taken : (files : List ChosenFile) → map choice_in files ≡ chosen → map bytes_in files ≡ texts → AreChosenOf (Etc chosen) (Usr chosen) files
  are_taken files choices bytes = record {
    few = taken_few;
    choices = choices ∙ sym taken_chosen;
    bytes = each_has (contents (Etc chosen) (Usr chosen)) files (bytes ∙ sym taken_held ∙ ap (map (contents (Etc chosen) (Usr chosen))) (sym choices));
  }
