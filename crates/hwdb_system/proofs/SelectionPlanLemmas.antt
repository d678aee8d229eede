-- The files of both folders, as they are chosen and read, follow the front of a plan.
use Rattle.std.proofs.Common.{◌≡◌, ◌∙◌, ◌⊎◌, ◌≤◌, ◌<◌, ◌+◌, ◌++◌, ◌∷◌, inl, inr, ap, sym, subst, refl, get_or, drop, length, map, List, [], Result, Ok, ℕ}
use Rattle.std.proofs.lemmas.List.{drop_all, drop_more}
use Rattle.std.specs.Result.{IsErrAnd}
use Rattle.hwdb_spec.specs.Errors.{refusal_of_select}
use Rattle.hwdb_spec.specs.Folders.{max_files, names, path_of}
use Rattle.hwdb_spec.specs.declared.errors.SelectError.{SelectError}
use Rattle.hwdb_spec.specs.declared.errors.SelectError.TheVariants as select
use Rattle.hwdb_spec.specs.declared.errors.ToolError.TheVariants.{Memory, TooManyFiles}
use Rattle.hwdb_spec_commands.specs.Told.{IsUnreadAs, Reads}
use Rattle.hwdb_spec_commands.specs.declared.refusals.Refusal.{Refusal}
use Rattle.hwdb_spec_commands.specs.declared.refusals.Refusal.TheVariants.{Plain}
use Rattle.hwdb_plan.specs.Folders.{paths_of, read_texts}
use Rattle.hwdb_plan.specs.Lemmas.Folders.{TextsAreRead, text_more, text_stops, texts_read}
use Rattle.hwdb_plan.specs.Plans.{End, Ends, Plan, ReachesValue}
use Rattle.hwdb_text.specs.Views.{choice_of}
use Rattle.hwdb_text.specs.declared.choice.Chosen.{Chosen}

-- why no files are chosen
pub select_refused : (etc usr : List (List ℕ)) (e : SelectError) → (e ≡ select.TooManyFiles → max_files < length (names etc usr))
    → (Plain (refusal_of_select e) ≡ Plain Memory) ⊎ ((Plain (refusal_of_select e) ≡ Plain TooManyFiles) × (max_files < length (names etc usr)))
select_refused etc usr select.TooManyFiles many = inr (refl, many refl)
select_refused etc usr select.Memory many = inl refl

module _ (w : Reads) (root : List ℕ) (chosen : List Chosen) where
  abbrev paths : List Chosen → List (List ℕ)
  paths files = paths_of root (map choice_of files)

  -- some are read, up to this place
  abbrev pub AreReached : (k : ℕ) (texts : List (List ℕ)) → Type 0
  AreReached k texts = TextsAreRead w (paths chosen) (paths (drop k chosen)) texts

  pub none_reached : (texts : List (List ℕ)) → texts ≡ [] → AreReached 0 texts
  none_reached texts none = λ next e ends. subst (λ l. Ends w (read_texts (paths chosen) l next) e) none ends

  module _ (k : ℕ) (file : Chosen) (texts : List (List ℕ)) (lt : k < length chosen) (is : file ≡ get_or chosen k file) (reached : AreReached k texts) where
    here : TextsAreRead w (paths chosen) ((root ++ path_of (choice_of file)) ∷ paths (drop (k + 1) chosen)) texts
    here = subst (λ l. TextsAreRead w (paths chosen) (paths l) texts) (drop_more chosen k file lt ∙ ap (λ f. f ∷ drop (k + 1) chosen) (sym is)) reached

    pub reached_more : (bytes : List ℕ) (more : List (List ℕ)) → w.text (root ++ path_of (choice_of file)) ≡ Ok bytes → more ≡ texts ++ bytes ∷ [] → AreReached (k + 1) more
    reached_more bytes more told put =
        subst (λ l. AreReached (k + 1) l) (sym put) (text_more w (paths chosen) (root ++ path_of (choice_of file)) (paths (drop (k + 1) chosen)) texts bytes here told)

    pub reached_stops : {Y : Type 0} (value : Y → List (List ℕ)) (r : Refusal) (result : Result Y Refusal) → IsUnreadAs (w.text (root ++ path_of (choice_of file))) (root ++ path_of (choice_of file)) r
        → IsErrAnd result (λ x. x ≡ r) → ReachesValue value w (read_texts (paths chosen) []) result
    reached_stops value r result why is_r = text_stops w value (paths chosen) (root ++ path_of (choice_of file)) (paths (drop (k + 1) chosen)) texts r result here why is_r

  pub reached_all : (k : ℕ) (texts : List (List ℕ)) → length chosen ≤ k → AreReached k texts → (next : List (List ℕ) → Plan) (e : End) → Ends w (next texts) e → Ends w (read_texts (paths chosen) [] next) e
  reached_all k texts le reached = texts_read w (paths chosen) texts (subst (λ l. TextsAreRead w (paths chosen) (paths l) texts) (drop_all k chosen le) reached)
