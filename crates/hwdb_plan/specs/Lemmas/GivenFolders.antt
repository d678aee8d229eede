-- Steps of functions that find the text files which given paths mean.
use Rattle.std.proofs.Common.{◌≡◌, ◌≤◌, ◌<◌, ◌∙◌, ◌⊎◌, ◌++◌, ◌∷◌, arith, inl, inr, ap, sym, subst, Bool, true, false, List, [], None, Option, Result, Ok, Err, IfErr, IfOk, ℕ, length}
use Rattle.std.specs.Prelude.{if◌then◌else◌, nat_le}
use Rattle.std.specs.Result.{IsErrAnd}
use Rattle.std.proofs.lemmas.Bool.Decides.{nat_tests}
use Rattle.hwdb_spec.specs.Folders.{max_files, names}
use Rattle.hwdb_spec.specs.declared.errors.ToolError.TheVariants as error
use Rattle.hwdb_spec_commands.specs.CheckedFiles.{files_in, folder_of}
use Rattle.hwdb_spec_commands.specs.Given.{is_dash}
use Rattle.hwdb_spec_commands.specs.Told.{IsListedTo, Reads, stop_of}
use Rattle.hwdb_spec_commands.specs.Told.Stop.{Plain}
use Rattle.hwdb_spec_commands.specs.declared.refusals.Refusal.{Refusal}
use Rattle.hwdb_spec_commands.specs.declared.refusals.Refusal.TheVariants as refusal
use Rattle.hwdb_plan.specs.Folders.{if_listed}
use Rattle.hwdb_plan.specs.GivenFolders.{files_at, files_for, if_few, if_folder, named_files}
use Rattle.hwdb_plan.specs.Lemmas.Folders.{folder_asked, value_stops, value_then}
use Rattle.hwdb_plan.specs.Plans.{End, Ends, Plan, ReachesValue}
use Rattle.hwdb_plan.specs.Plans.End.{Stops}
use Rattle.hwdb_plan.specs.Plans.Plan.{Done, Folder}

module _ (w : Reads) where
  -- ---- one path
  module _ {Y : Type 0} (value : Y → List (List ℕ)) (path : List ℕ) where
    abbrev Few : (found : List (List ℕ)) (next : List (List ℕ) → Plan) → Bool → Plan
    Few found next b = if b then next (files_in path found) else Done (Stops (Plain error.TooManyFiles))

    -- the text files of its folder, or too many
    pub files_reached : (found : List (List ℕ)) (result : Result Y Refusal) → IfOk result (λ y. value y ≡ files_in path found) → IfOk result (λ _. length (names found []) ≤ max_files)
        → IfErr result (λ r. (r ≡ refusal.Plain error.Memory) ⊎ ((r ≡ refusal.Plain error.TooManyFiles) × (max_files < length (names found [])))) → ReachesValue value w (if_few path found) result
    unfolding Ends
    files_reached found (Ok y) is few why = λ next e ends.
        let test : nat_le (length (names found [])) max_files ≡ true = grind (arith, nat_tests, few) in
        subst (λ (b : Bool). Ends w (Few found next b) e) (sym test) (subst (λ (l : List (List ℕ)). Ends w (next l) e) is ends)
    files_reached found (Err r) is few (inl memory) = inl memory
    files_reached found (Err r) is few (inr (error, many)) = inr (λ next.
        let test : nat_le (length (names found [])) max_files ≡ false = grind (arith, nat_tests, many) in
        subst (λ (b : Bool). Ends w (Few found next b) (Stops (stop_of r))) (sym test) (ap (λ x. Stops (stop_of x)) error))

    -- the path itself, as no folder is there
    pub alone_reached : (result : Result Y Refusal) → IfOk result (λ y. value y ≡ path ∷ []) → IfErr result (λ r. r ≡ refusal.Plain error.Memory) → ReachesValue value w (if_folder path None) result
    alone_reached (Ok y) is memory = λ next e ends. subst (λ (l : List (List ℕ)). Ends w (next l) e) is ends
    alone_reached (Err r) is memory = inl memory

    module _ {F : Type 0} (found_in : F → Option (List (List ℕ))) where
      -- what is told of its folder, and then what that means
      pub folder_found : (found : F) (result : Result Y Refusal) → IsListedTo found_in (w.folder (folder_of path)) (folder_of path) (Ok found) → ReachesValue value w (if_folder path (found_in found)) result
          → ReachesValue value w (files_at path) result
      folder_found found result told more =
          value_then w found_in value (λ next. Folder (folder_of path) (if_listed (folder_of path) next)) (if_folder path) found result (folder_asked w found_in (folder_of path) (Ok found) told) more

      -- or why nothing is
      pub folder_stops : (r : Refusal) (result : Result Y Refusal) → IsListedTo found_in (w.folder (folder_of path)) (folder_of path) (Err r) → IsErrAnd result (λ x. x ≡ r)
          → ReachesValue value w (files_at path) result
      folder_stops r result told is =
          value_stops w found_in value (λ next. Folder (folder_of path) (if_listed (folder_of path) next)) (if_folder path) r result (folder_asked w found_in (folder_of path) (Err r) told) is

    abbrev For : Bool → (List (List ℕ) → Plan) → Plan
    For b next = if b then next (path ∷ []) else files_at path next

    -- it is standard input
    pub dash_reached : is_dash path ≡ true → (result : Result Y Refusal) → IfOk result (λ y. value y ≡ path ∷ []) → IfErr result (λ r. r ≡ refusal.Plain error.Memory) → ReachesValue value w (files_for path) result
    dash_reached dash result is memory = subst (λ (b : Bool). ReachesValue value w (For b) result) (sym dash) (alone_reached result is memory)

    -- it isn't
    pub plain_reached : is_dash path ≡ false → (result : Result Y Refusal) → ReachesValue value w (files_at path) result → ReachesValue value w (files_for path) result
    plain_reached plain result reaches = subst (λ (b : Bool). ReachesValue value w (For b) result) (sym plain) reaches

  -- ---- one after the other
  -- some have been found, and the plan goes on with those that are left
  abbrev pub FilesAreNamed : (given left paths : List (List ℕ)) → Type 0
  FilesAreNamed given left paths = (next : List (List ℕ) → Plan) (e : End) → Ends w (named_files left paths next) e → Ends w (named_files given [] next) e

  pub none_named : (given paths : List (List ℕ)) → paths ≡ [] → FilesAreNamed given given paths
  none_named given paths none next e ends = subst (λ (l : List (List ℕ)). Ends w (named_files given l next) e) none ends

  module _ {Y : Type 0} (value : Y → List (List ℕ)) (given : List (List ℕ)) (path : List ℕ) (more paths : List (List ℕ)) (before : FilesAreNamed given (path ∷ more) paths) where
    -- one more is
    pub one_named : (own : Y) (all : List (List ℕ)) → ReachesValue value w (files_for path) (Ok own) → all ≡ paths ++ value own → FilesAreNamed given more all
    unfolding named_files
    one_named own all reaches are next e ends =
        before next e (reaches (λ l. named_files more (paths ++ l) next) e (subst (λ (l : List (List ℕ)). Ends w (named_files more l next) e) are ends))

    -- the next one can't be: that is the result
    pub naming_stops : {Z : Type 0} (of : Z → List (List ℕ)) (r : Refusal) (result : Result Z Refusal) → ReachesValue value w (files_for path) (Err r) → IsErrAnd result (λ x. x ≡ r)
        → ReachesValue of w (named_files given []) result
    unfolding named_files
    naming_stops of r (Ok z) why is = absurd is
    naming_stops of r (Err x) (inl memory) is = inl (is ∙ memory)
    naming_stops of r (Err x) (inr ends) is = inr (λ next. before next (Stops (stop_of x))
        (subst (λ (y : Refusal). Ends w (files_for path (λ l. named_files more (paths ++ l) next)) (Stops (stop_of y))) (sym is) (ends (λ l. named_files more (paths ++ l) next))))

  -- all are
  pub all_named : (given paths : List (List ℕ)) → FilesAreNamed given [] paths → (next : List (List ℕ) → Plan) (e : End) → Ends w (next paths) e → Ends w (named_files given [] next) e
  unfolding named_files
  all_named given paths before next e ends = before next e ends
