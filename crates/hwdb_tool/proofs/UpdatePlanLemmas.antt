-- Steps of an update that follow its plan.
use Rattle.std.proofs.Common.{All, Bool, Err, IfErr, IfOk, List, Ok, OnOk, Option, Result, [], ap, drop, get_or, inl, inr, map, refl, subst, sym, ℕ, ◌++◌, ◌∙◌, ◌∷◌, ◌≡◌, ◌≢◌}
use Rattle.std.proofs.lemmas.List.Elements.{All-cons, All-nil}
use Rattle.std.specs.Prelude.{IsErrOf}
use Rattle.std.specs.Result.{IsErrAnd}
use Rattle.hwdb_compile.specs.Views.{AreChosenOf}
use Rattle.hwdb_plan.specs.Lemmas.Put.{Ended, kept, put_stops}
use Rattle.hwdb_plan.specs.Lemmas.Update.{put_end, unput_end}
use Rattle.hwdb_plan.specs.Plans.{AreMadeOf, End, Ends, Plan}
use Rattle.hwdb_plan.specs.Plans.End.{Answers, Replaces, Stops}
use Rattle.hwdb_plan.specs.Plans.Plan.{Done}
use Rattle.hwdb_plan.specs.Put.{put_plan}
use Rattle.hwdb_plan.specs.Putting.{OldOrPut, PutsEnd, SaysThenPuts}
use Rattle.hwdb_plan.specs.Readable.{EndsEarly, GoesOn, Readable, readable_texts}
use Rattle.hwdb_plan.specs.Update.{left_out_plan, put_readable, update_plan}
use Rattle.hwdb_spec.specs.CompileErrors.{IsRefusal}
use Rattle.hwdb_spec.specs.Errors.{refusal_of_compile}
use Rattle.hwdb_spec.specs.Folders.{FaultIn, Source, contents, faults_of_files}
use Rattle.hwdb_spec.specs.Format.{IsDatabase}
use Rattle.hwdb_spec.specs.NotReplaced.{IsLeft, IsSeen, failures_after}
use Rattle.hwdb_spec.specs.Store.{Contents, InPlace, LeavesOnly, OldOrNew, Outcomes, Stored, database_name, path_in}
use Rattle.hwdb_spec.specs.Texts.{max_file}
use Rattle.hwdb_spec.specs.Tree.{Tree}
use Rattle.hwdb_spec.specs.declared.errors.CompileError.{CompileError}
use Rattle.hwdb_spec.specs.declared.errors.CompileError.TheVariants as compiling
use Rattle.hwdb_spec.specs.declared.errors.ToolError.{ToolError}
use Rattle.hwdb_spec.specs.declared.errors.ToolError.TheVariants.{Memory, Replace, Write}
use Rattle.hwdb_spec.specs.declared.errors.Unreplaced.{Unreplaced}
use Rattle.hwdb_spec_commands.specs.Progress.{update_text}
use Rattle.hwdb_spec_commands.specs.Refusals.{IsOfUpdate}
use Rattle.hwdb_spec_commands.specs.Runs.{AreKept, Files, HasTaken, Told, WasCut}
use Rattle.hwdb_spec_commands.specs.Summary.{depth}
use Rattle.hwdb_spec_commands.specs.Told.{Reads, stop_of}
use Rattle.hwdb_spec_commands.specs.UpdateErrors.{IsPlaceRefusal, OnUnreplaced}
use Rattle.hwdb_spec_commands.specs.declared.refusals.Refusal.{Refusal}
use Rattle.hwdb_spec_commands.specs.declared.refusals.Refusal.TheVariants.{Plain}
use Rattle.hwdb_system.specs.Selections.{IsSelectionOf}
use Rattle.hwdb_system.specs.declared.folders.Selection.{Selection}
use Rattle.hwdb_text.specs.Views.{bytes_in, choice_in, choice_of}
use Rattle.hwdb_text.specs.declared.choice.ChosenFile.{ChosenFile}
use Rattle.hwdb_tool.proofs.MomentLemmas.{leaves_more}
use Rattle.hwdb_tool.specs.Emptying.{IsResultOf, status_by}

-- ---- the files of a selection
module _ (etc usr : List Source) where
  abbrev IsHeld : ChosenFile → Type 0
  IsHeld f = bytes_in f ≡ contents etc usr (choice_in f)

  all_held : (files : List ChosenFile) → map bytes_in files ≡ map (contents etc usr) (map choice_in files) → All IsHeld files
  all_held [] same = All-nil IsHeld
  all_held (f ∷ files) same = All-cons IsHeld f files (ap (λ l. get_or l 0 []) same) (all_held files (ap (drop 1) same))

  pub files_chosen : (s : Selection) (files : List ChosenFile) → IsSelectionOf etc usr s → map choice_in files ≡ map choice_of s.chosen.items → map bytes_in files ≡ map (λ t. t.items) s.texts.items
      → AreChosenOf etc usr files
  files_chosen s files of choices bytes = record {
    few = of.few;
    choices = choices ∙ of.chosen;
    bytes = all_held files (bytes ∙ of.texts ∙ ap (map (contents etc usr)) (sym (choices ∙ of.chosen)));
  }

-- ---- steps of a plan that ends in a database
nothing_changed : (files : Files) → AreKept files files
nothing_changed files = record { same = λ p. refl; no_more = λ p v l. l }

module _ {X : Type 0} (w : Reads) (p : (X → Plan) → Plan) (next : X → Plan) where
  -- the plan goes on
  pub puts_then : (x : X) (before now : Files) (err_before err_now : Told) (result : Result ℕ Refusal) → GoesOn w p x → PutsEnd w (next x) before now err_before err_now result
      → PutsEnd w (p next) before now err_before err_now result
  puts_then x before now eb en result goes (inl (e, ends, puts)) = inl (e, goes next e ends, puts)
  puts_then x before now eb en result goes (inr none) = inr none

  -- or ends
  pub puts_early : (r : Refusal) (files : Files) (told : Told) (result : Result ℕ Refusal) → EndsEarly w p r → IsErrAnd result (λ x. x ≡ r) → PutsEnd w (p next) files files told told result
  puts_early r files told (Ok n) early is = absurd is
  puts_early r files told (Err x) (inl memory) is = inr (is ∙ memory, refl, nothing_changed files)
  puts_early r files told (Err x) (inr ends) is = inl (Stops (stop_of r), ends next, (ap stop_of is, nothing_changed files, refl))

-- there was no memory
pub unput : (w : Reads) (p : Plan) (files : Files) (told : Told) (result : Result ℕ Refusal) → IsErrAnd result (λ x. x ≡ Plain Memory) → PutsEnd w p files files told told result
unput w p files told (Ok n) is = absurd is
unput w p files told (Err x) is = inr (is, refl, nothing_changed files)

-- an error is handed on
pub given_puts : (w : Reads) (p : Plan) (before now : Files) (err_before err_now : Told) (r : Refusal) (result : Result ℕ Refusal) → IsErrAnd result (λ x. x ≡ r) → PutsEnd w p before now err_before err_now (Err r)
    → PutsEnd w p before now err_before err_now result
given_puts w p before now eb en r (Ok n) is puts = absurd is
given_puts w p before now eb en r (Err x) is puts = subst (λ (y : Refusal). PutsEnd w p before now eb en (Err y)) (sym is) puts

-- an error stays, whatever becomes of the status
pub shown_error : (less : ℕ → ℕ) (result : Result ℕ Refusal) (r : Refusal) → IsErrAnd result (λ x. x ≡ r) → IsErrAnd (status_by less result) (λ x. x ≡ r)
shown_error less (Ok n) r is = absurd is
shown_error less (Err x) r is = is

-- ---- the database of files
module _ (w : Reads) (path : List ℕ) (less : ℕ → ℕ) where
  -- there was no memory
  pub no_memory : (p : Plan) (files : Files) (told : Told) (result : Result ℕ ToolError) (shown : Result ℕ Refusal) → IsErrAnd result (λ x. x ≡ Memory) → IsResultOf path less result shown
      → PutsEnd w p files files told told shown
  no_memory p files told (Ok n) shown is of = absurd is
  no_memory p files told (Err e) (Ok n) is of = absurd of
  no_memory p files told (Err e) (Err r) is of = inr (memory, refl, nothing_changed files)
    where
      memory : r ≡ Plain Memory
      memory = subst (λ (x : ToolError). IsOfUpdate x path r) is of

  module _ (loss : List ℕ) (etc usr : List Source) (listed : Option (List (List ℕ))) (answer : List FaultIn → ℕ) (folder : List ℕ) where
    abbrev Put : Plan
    Put = put_plan loss etc usr listed (λ faults. less (answer faults)) folder

    plain_of : (e : CompileError) (r : Refusal) → IsOfUpdate (refusal_of_compile e) path r → r ≡ Plain (refusal_of_compile e)
    plain_of compiling.Memory r of = of
    plain_of compiling.TooManyFiles r of = of
    plain_of compiling.TooManyLines r of = of
    plain_of compiling.TooLarge r of = of

    -- they aren't compiled
    pub uncompiled : (e : CompileError) (files : Files) (told : Told) (result : Result ℕ ToolError) (shown : Result ℕ Refusal) → IsErrAnd result (λ x. x ≡ refusal_of_compile e) → IsRefusal etc usr max_file e
        → IsResultOf path less result shown → PutsEnd w Put files files told told shown
    uncompiled e files told (Ok n) shown is much of = absurd is
    uncompiled e files told (Err x) (Ok n) is much of = absurd of
    uncompiled e files told (Err x) (Err r) is much of =
        unput_end w loss etc usr listed (λ faults. less (answer faults)) folder e r files told much (plain_of e r (subst (λ (y : ToolError). IsOfUpdate y path r) is of))

    -- they are
    module _ {S E : Type 0} (files : S → Files) (told : E → Told) (old new : S) (err_old err_new : E) (bytes said : List ℕ) (t : Tree)
        (made : AreMadeOf etc usr max_file bytes) (is : IsDatabase bytes t) (text : said ≡ loss ++ update_text listed etc usr (depth t)) where
      abbrev status : ℕ
      status = less (answer (faults_of_files etc usr))

      abbrev end : End
      end = Replaces folder bytes said status

      ends : Ends w Put end
      ends = put_end w loss etc usr listed (λ faults. less (answer faults)) folder bytes said status t made is text refl

      pub put_ended : (result : Result ℕ ToolError) (shown : Result ℕ Refusal) → path ≡ path_in folder database_name
          → OnOk result (HasTaken said (told err_old) (told err_new)) → OnOk result (InPlace folder bytes (files old).seen (files new).seen (files new).left)
          → IfOk result (λ n. n ≡ answer (faults_of_files etc usr)) → IfErr result IsPlaceRefusal
          → IfErr result (OnUnreplaced (λ u. HasTaken said (told err_old) (told err_new) × ((files new).failures ≡ failures_after u (files old).failures)))
          → IfErr result (OnUnreplaced (IsSeen folder bytes (files old).seen (files new).seen)) → IfErr result (OnUnreplaced (IsLeft folder bytes (files old).seen (files old).left (files new).left))
          → (IsErrOf result Write → WasCut said (told err_old) (told err_new) × (new ≡ old))
          → IfErr result (λ e. e ≢ Write → ((u : Unreplaced) → e ≢ Replace u) → (err_new ≡ err_old) × (new ≡ old))
          → IsResultOf path less result shown → PutsEnd w Put (files old) (files new) (told err_old) (told err_new) shown
      put_ended (Ok n) shown at took placed answers place undone seen left cut same of =
          subst (λ (x : Result ℕ Refusal). PutsEnd w Put (files old) (files new) (told err_old) (told err_new) x) (sym of) (inl (end, ends, (ap less answers, took, placed)))
      put_ended (Err e) (Ok n) at took placed answers place undone seen left cut same of = absurd of
      put_ended (Err e) (Err r) at took placed answers place undone seen left cut same of =
          shown_by (put_stops folder bytes said status (files old) (files new) (told err_old) (told err_new) e path r place of at undone seen left
          (λ is_write. let h = cut (ap Err is_write) in (h.0, kept files old new h.1))
          (λ other unreplaced. let h = same other unreplaced in (ap told h.0, kept files old new h.1)))
        where
          shown_by : Ended folder bytes said status (files old) (files new) (told err_old) (told err_new) r → PutsEnd w Put (files old) (files new) (told err_old) (told err_new) (Err r)
          shown_by (inl replaces) = inl (end, ends, replaces)
          shown_by (inr none) = inr none

-- ---- the command
module _ (w : Reads) (root : List ℕ) (usr strict verbose skip : Bool) (words : List (List ℕ)) where
  abbrev First : Plan
  First = left_out_plan root skip words

  abbrev After : Plan
  After = update_plan root usr strict verbose skip words

  -- the files can't be read
  pub update_unread : (r : Refusal) (files : Files) (told : Told) (result : Result ℕ Refusal) → EndsEarly w (readable_texts skip root words) r → IsErrAnd result (λ x. x ≡ r)
      → SaysThenPuts w First After files files told told result
  update_unread r files told (Ok n) early is = absurd is
  update_unread r files told (Err x) (inl memory) is = inr (is ∙ memory, refl, nothing_changed files)
  update_unread r files told (Err x) (inr ends) is = inl (Stops (stop_of r), ends (λ y. Done (Answers 0 y.left.said [])), (ap stop_of is, nothing_changed files, refl))

  module _ (x : Readable) (goes : GoesOn w (readable_texts skip root words) x) where
    abbrev said_end : End
    said_end = Answers 0 x.left.said []

    said : Ends w First said_end
    unfolding Ends
    said = goes (λ y. Done (Answers 0 y.left.said [])) said_end refl

    -- what is said of files that are left out can't be
    pub update_unsaid : (r : Refusal) (files : Files) (err_before err_now : Told) (result : Result ℕ Refusal) → (r ≡ Plain Write) × WasCut x.left.said err_before err_now → IsErrAnd result (λ y. y ≡ r)
        → SaysThenPuts w First After files files err_before err_now result
    update_unsaid r files eb en (Ok n) cut is = absurd is
    update_unsaid r files eb en (Err y) cut is = inl (said_end, said, inl ((is ∙ cut.0, cut.1), nothing_changed files))

    -- it is, and the files that can be read are put in their place, or not
    pub update_ended : (before now : Files) (err_before err_said err_now : Told) (result : Result ℕ Refusal) → HasTaken x.left.said err_before err_said
        → PutsEnd w (put_readable root usr strict verbose x) before now err_said err_now result → SaysThenPuts w First After before now err_before err_now result
    update_ended before now eb es en result took puts =
        inl (said_end, said, inr (es, took, puts_then w (readable_texts skip root words) (put_readable root usr strict verbose) x before now es en result goes puts))

-- ---- a crash
-- what leads to one plan leads to the other
put_more : (w : Reads) (p q : Plan) (old : Contents) (outcomes : Outcomes) → ((e : End) → Ends w p e → Ends w q e) → (path : List ℕ) (v : Option Stored) → OldOrPut w p old outcomes path v
    → OldOrPut w q old outcomes path v
put_more w p q old outcomes goes path v (inl (inl was)) = inl (inl was)
put_more w p q old outcomes goes path v (inl (inr (folder, bytes, said, status, ends, at, is))) = inl (inr (folder, bytes, said, status, goes (Replaces folder bytes said status) ends, at, is))
put_more w p q old outcomes goes path v (inr (folder, bytes, said, status, ends, part)) = inr (folder, bytes, said, status, goes (Replaces folder bytes said status) ends, part)

-- the new database, or something of it
put_new : (w : Reads) (p : Plan) (folder bytes text : List ℕ) (n : ℕ) (old : Contents) (outcomes : Outcomes) → Ends w p (Replaces folder bytes text n) → (path : List ℕ) (v : Option Stored)
    → OldOrNew folder bytes old outcomes path v → OldOrPut w p old outcomes path v
put_new w p folder bytes text n old outcomes goes path v (inl was) = inl (inl was)
put_new w p folder bytes text n old outcomes goes path v (inr (inl (at, is))) = inl (inr (folder, bytes, text, n, goes, at, is))
put_new w p folder bytes text n old outcomes goes path v (inr (inr part)) = inr (folder, bytes, text, n, goes, part)

module _ {D : Type 0} (moment : D → ℕ) (left_since : D → ℕ → Outcomes) (old new : D) (w : Reads) (seen : Contents) (outcomes : Outcomes) where
  abbrev LeavesPut : Plan → Type 0
  LeavesPut p = LeavesOnly moment left_since old new (OldOrPut w p seen outcomes)

  -- of a plan that goes on
  pub leaves_then : (p q : Plan) → ((e : End) → Ends w p e → Ends w q e) → LeavesPut p → LeavesPut q
  leaves_then p q goes leaves = leaves_more moment left_since old new (OldOrPut w p seen outcomes) (OldOrPut w q seen outcomes) (put_more w p q seen outcomes goes) leaves

  -- of the database of files
  pub leaves_put : (loss : List ℕ) (etc usr : List Source) (listed : Option (List (List ℕ))) (answer : List FaultIn → ℕ) (folder bytes : List ℕ) (t : Tree) → AreMadeOf etc usr max_file bytes → IsDatabase bytes t
      → LeavesOnly moment left_since old new (OldOrNew folder bytes seen outcomes) → LeavesPut (put_plan loss etc usr listed answer folder)
  leaves_put loss etc usr listed answer folder bytes t made is leaves =
      leaves_more moment left_since old new (OldOrNew folder bytes seen outcomes) (OldOrPut w (put_plan loss etc usr listed answer folder) seen outcomes)
      (put_new w (put_plan loss etc usr listed answer folder) folder bytes (loss ++ update_text listed etc usr (depth t)) (answer (faults_of_files etc usr)) seen outcomes
      (put_end w loss etc usr listed answer folder bytes (loss ++ update_text listed etc usr (depth t)) (answer (faults_of_files etc usr)) t made is refl refl)) leaves
