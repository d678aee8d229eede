-- Ends of `check`, from what its calls promise.
use Rattle.std.proofs.Common.{◌≡◌, ◌≤◌, ◌∙◌, ◌⊎◌, ◌==◌, ◌∷◌, inl, inr, ap, subst, sym, arith, eqb-true, refl, All, Bool, Global, String, true, false, List, Option, None, Some, Result, Ok, Err, IfErr, IfOk, ℕ, [], length, map, string_bytes}
use Rattle.std.specs.Prelude.{is_some, option_map}
use Rattle.std.specs.Result.{IsErrAnd}
use Rattle.hwdb_check.specs.Checks.{source_of}
use Rattle.hwdb_check.specs.Known.{IsWrong}
use Rattle.hwdb_check.specs.declared.baselines.BaselineFault.{BaselineFault}
use Rattle.hwdb_check.specs.declared.baselines.BaselineFault.TheVariants as baseline
use Rattle.hwdb_check.specs.declared.files.TextFile.{TextFile}
use Rattle.hwdb_spec.specs.Errors.{refusal_of_scan}
use Rattle.hwdb_spec.specs.Folders.{Choice, Source, path_of}
use Rattle.hwdb_spec.specs.Texts.{max_file}
use Rattle.hwdb_spec.specs.declared.errors.ScanError.{ScanError}
use Rattle.hwdb_spec.specs.declared.errors.ScanError.TheVariants as scan
use Rattle.hwdb_spec.specs.declared.errors.ToolError.TheVariants as error
use Rattle.hwdb_spec_commands.specs.Baselines.{marks_in, wrong_text}
use Rattle.hwdb_spec_commands.specs.CheckErrors.{HasLongFile, IsCheckRefusal}
use Rattle.hwdb_spec_commands.specs.CheckedFiles.{IsChecked}
use Rattle.hwdb_spec_commands.specs.Checks.{named, names_nothing, names_other, nothing_named, other_named, rules_name}
use Rattle.hwdb_spec_commands.specs.Jobs.{text_if}
use Rattle.hwdb_spec_commands.specs.Patches.{said_err, said_out, said_status}
use Rattle.hwdb_spec_commands.specs.Refusals.{IsInWords}
use Rattle.hwdb_spec_commands.specs.Told.{IsUnreadAs, Reads, Stop, stop_of}
use Rattle.hwdb_spec_commands.specs.Told.Stop.{Says}
use Rattle.hwdb_spec_commands.specs.Undone.{AreNotChecked}
use Rattle.hwdb_spec_commands.specs.declared.refusals.Refusal.{Refusal}
use Rattle.hwdb_spec_commands.specs.declared.refusals.Refusal.TheVariants as refusal
use Rattle.hwdb_spec_commands.specs.declared.unread.Unread.TheVariants as unread
use Rattle.hwdb_plan.specs.Check.{check_plan, checked_plan, rules_plan, said_of, stored}
use Rattle.hwdb_plan.specs.Baseline.{if_marked, over_baseline}
use Rattle.hwdb_plan.specs.Files.{OfInput, given_files, source_at}
use Rattle.hwdb_plan.specs.Folders.{texts_of_folders}
use Rattle.hwdb_plan.specs.GivenFolders.{named_files}
use Rattle.hwdb_plan.specs.Lemmas.Sides.{in_words_stops}
use Rattle.hwdb_plan.specs.Lemmas.Steps.{input_told, input_untold}
use Rattle.hwdb_plan.specs.OverText.{if_fit}
use Rattle.hwdb_plan.specs.OwnRules.{own_rules, sources_of}
use Rattle.hwdb_plan.specs.Plans.{End, Ends, Follows, Plan, ReachesValue}
use Rattle.hwdb_plan.specs.Plans.End.{Stops}
use Rattle.hwdb_plan.specs.Plans.Plan.{Done}
use Rattle.hwdb_tool.specs.Internal.{IsOfBaseline}
use Rattle.hwdb_tool.specs.Views.{end_of, texts_in}
use Rattle.hwdb_tool.specs.declared.answer.Answer.{Answer}
use Rattle.hwdb_tool.proofs.TextErrorLemmas.{long_file}
use Rattle.hwdb_spec_commands.specs.declared.formats.Format.{Format}

-- files that were read are chosen ones by their stored paths
pub files_stored : (chosen : List Choice) (texts : List (List ℕ)) (files : List TextFile) → map (λ f. f.path.now) files ≡ map path_of chosen → map (λ f. f.bytes.now) files ≡ texts
    → map source_of files ≡ stored chosen texts
unfolding stored
files_stored [] texts [] named held = refl
files_stored [] texts (f ∷ files) named held = cc
files_stored (c ∷ chosen) texts [] named held = cc
files_stored (c ∷ chosen) [] (f ∷ files) named held = cc
files_stored (c ∷ chosen) (text ∷ texts) (f ∷ files) named held =
    let name : f.path.now ≡ path_of c = cc in
    let bytes : f.bytes.now ≡ text = cc in
    let rest = files_stored chosen texts files (cc) (cc) in
    ap (λ (n : List ℕ). source_at n f.bytes.now ∷ map source_of files) name ∙ ap (λ (b : List ℕ). source_at (path_of c) b ∷ map source_of files) bytes
    ∙ ap (λ (l : List Source). source_at (path_of c) text ∷ l) rest

-- and rules files by these paths
pub files_read : (paths texts : List (List ℕ)) (files : List TextFile) → map (λ f. f.path.now) files ≡ paths → map (λ f. f.bytes.now) files ≡ texts → map source_of files ≡ sources_of paths texts
unfolding sources_of
files_read [] texts [] named held = refl
files_read [] texts (f ∷ files) named held = cc
files_read (path ∷ paths) texts [] named held = cc
files_read (path ∷ paths) [] (f ∷ files) named held = cc
files_read (path ∷ paths) (text ∷ texts) (f ∷ files) named held =
    let name : f.path.now ≡ path = cc in
    let bytes : f.bytes.now ≡ text = cc in
    let rest = files_read paths texts files (cc) (cc) in
    ap (λ (n : List ℕ). source_at n f.bytes.now ∷ map source_of files) name ∙ ap (λ (b : List ℕ). source_at path b ∷ map source_of files) bytes
    ∙ ap (λ (l : List Source). source_at path text ∷ l) rest

module _ (w : Reads) (format : Format) (strict : Bool) (allowed : List (List ℕ)) (name : Option (List ℕ)) (known : List (List ℕ)) (sources : List Source) where
  -- they are looked over, which only want of memory can stop
  pub checked_ends : All (λ (s : Source). length s.bytes ≤ max_file) sources → (result : Result Answer Refusal)
      → IfOk result (λ a. IsChecked (λ some. some ≡ sources) format strict allowed known name (texts_in a) a.status) → IfErr result (AreNotChecked (λ some. some ≡ sources))
      → Follows end_of w (Done (said_of format strict allowed name known sources)) result
  unfolding Ends
  checked_ends short (Ok a) checked not =
      let err : a.err.items ≡ said_err format allowed (map (named name) sources) = checked.err ∙ ap (λ (l : List Source). said_err format allowed (map (named name) l)) checked.are in
      let out : a.out.items ≡ said_out format allowed known (map (named name) sources) = checked.out ∙ ap (λ (l : List Source). said_out format allowed known (map (named name) l)) checked.are in
      let status : a.status ≡ said_status format strict allowed known (map (named name) sources) = checked.says
      ∙ ap (λ (l : List Source). said_status format strict allowed known (map (named name) l)) checked.are in
      cc
  checked_ends short (Err r) checked not = by not.error not.is not.refused
    where
      by : (e : ScanError) → r ≡ refusal.Plain (refusal_of_scan e) → IsCheckRefusal not.sources e → Follows end_of w (Done (said_of format strict allowed name known sources)) (Err r)
      by scan.TooManyLines is refused = absurd (long_file sources short (subst HasLongFile not.are refused))
      by scan.Memory is refused = inl is

-- the plan of `check`, if no path is given, and if some are
module _ (w : Reads) (root : List ℕ) (say : List Source → End) (input : Option (List ℕ)) (n m : ℕ) (result : Result Answer Refusal) where
  pub check_none : (given : List (String Global)) → (length given == 0) ≡ true → Follows end_of w (texts_of_folders root (λ texts. Done (say (stored texts.chosen texts.texts)))) result
      → OfInput input n m (λ told. Follows end_of w (check_plan told (map string_bytes given) root say) result)
  check_none [] none follows = (Err unread.Memory, tt, follows)
  check_none (path ∷ more) none follows = absurd (let e = eqb-true (length (path ∷ more)) 0 none in omega (arith, e))

  pub check_some : (given : List (String Global)) → (length given == 0) ≡ false
      → OfInput input n m
      (λ told. Follows end_of w (named_files (map string_bytes given) [] (λ paths. given_files (map string_bytes given) told paths (λ sources. Done (say sources)))) result)
      → OfInput input n m (λ told. Follows end_of w (check_plan told (map string_bytes given) root say) result)
  check_some [] some follows = absurd (cc)
  check_some (path ∷ more) some follows = follows

-- the same with `--rules`
module _ (w : Reads) (root : List ℕ) (name baseline : Option (List ℕ)) (say : Option (List ℕ) → List (List ℕ) → List Source → End) (input : Option (List ℕ)) (n m : ℕ) (result : Result Answer Refusal) where
  pub rules_none : (given : List (String Global)) → (length given == 0) ≡ true
      → Follows end_of w (if_fit (text_if (is_some name) nothing_named) (over_baseline baseline (λ known. own_rules root (λ sources. Done (say name known sources))))) result
      → OfInput input n m (λ told. Follows end_of w (rules_plan told (map string_bytes given) root name baseline say) result)
  rules_none [] none follows = (Err unread.Memory, tt, follows)
  rules_none (path ∷ more) none follows = absurd (let e = eqb-true (length (path ∷ more)) 0 none in omega (arith, e))

  pub rules_some : (given : List (String Global)) → (length given == 0) ≡ false
      → OfInput input n m (λ told. Follows end_of w (if_fit (text_if (names_other name (map string_bytes given)) other_named)
      (checked_plan told (map string_bytes given) root (rules_name name (map string_bytes given)) baseline (say (rules_name name (map string_bytes given))))) result)
      → OfInput input n m (λ told. Follows end_of w (rules_plan told (map string_bytes given) root name baseline say) result)
  rules_some [] some follows = absurd (cc)
  rules_some (path ∷ more) some follows = follows

-- an error in words ends a plan that says them
stopped : (w : Reads) (text : List ℕ) (s : Stop) → s ≡ Says text → Ends w (Done (Stops (Says text))) (Stops s)
unfolding Ends
stopped w text s says = ap Stops says

-- ---- a baseline
module _ (w : Reads) {Y : Type 0} (marks_of : Y → List (List ℕ)) where
  -- words give none
  pub none_known : (y : Y) → marks_of y ≡ [] → ReachesValue marks_of w (over_baseline None) (Ok y)
  none_known y none = λ next e ends. subst (λ (known : List (List ℕ)). Ends w (next known) e) none ends

  module _ (path : List ℕ) where
    -- it can't be read
    pub baseline_unread : (r : Refusal) (result : Result Y Refusal) → IsUnreadAs (w.input path) path r → IsErrAnd result (λ x. x ≡ r) → ReachesValue marks_of w (over_baseline (Some path)) result
    baseline_unread r (Ok y) why is = absurd is
    baseline_unread r (Err x) (inl memory) is = inl (is ∙ memory)
    baseline_unread r (Err x) (inr (u, told, says)) is =
        inr (λ next. input_untold w path u (λ at bytes. if_marked at (marks_in bytes) next) (stop_of x) told (ap stop_of is ∙ says))

    module _ (bytes : List ℕ) (told : w.input path ≡ Ok bytes) where
      -- each of its lines has a finding
      pub baseline_read : (y : Y) → marks_in bytes ≡ Ok (marks_of y) → ReachesValue marks_of w (over_baseline (Some path)) (Ok y)
      baseline_read y are = λ next e ends.
          input_told w path path bytes (λ at bytes. if_marked at (marks_in bytes) next) e told refl
          (subst (λ (marks : Result (List (List ℕ)) ℕ). Ends w (if_marked path marks next) e) (sym are) ends)

      -- one has none
      wrong_ends : (number : ℕ) (s : Stop) (next : List (List ℕ) → Plan) → marks_in bytes ≡ Err number → s ≡ Says (wrong_text path number) → Ends w (over_baseline (Some path) next) (Stops s)
      wrong_ends number s next wrong says =
          input_told w path path bytes (λ at bytes. if_marked at (marks_in bytes) next) (Stops s) told refl
          (subst (λ (marks : Result (List (List ℕ)) ℕ). Ends w (if_marked path marks next) (Stops s)) (sym wrong) (stopped w (wrong_text path number) s says))

      pub baseline_wrong : (fault : BaselineFault) (r : Refusal) → IsWrong (marks_in bytes) fault → IsOfBaseline path fault r → ReachesValue marks_of w (over_baseline (Some path)) (Err r)
      baseline_wrong (baseline.Line number) r wrong is = by (in_words_stops (wrong_text path number) r is)
        where
          by : (r ≡ refusal.Plain error.Memory) ⊎ (stop_of r ≡ Says (wrong_text path number)) → ReachesValue marks_of w (over_baseline (Some path)) (Err r)
          by (inl memory) = inl memory
          by (inr says) = inr (λ next. wrong_ends number (stop_of r) next wrong says)
      baseline_wrong baseline.Memory r wrong is = inl is

-- ---- words that don't fit
module _ (w : Reads) (misfit : Bool) (text : List ℕ) (p : Plan) where
  pub misfit_said : (r : Refusal) → misfit ≡ true → IsInWords text r → Follows end_of w (if_fit (text_if misfit text) p) (Err r)
  misfit_said r unfit is = by (in_words_stops text r is)
    where
      by : (r ≡ refusal.Plain error.Memory) ⊎ (stop_of r ≡ Says text) → Follows end_of w (if_fit (text_if misfit text) p) (Err r)
      by (inl memory) = inl memory
      by (inr says) = inr (subst (λ (b : Bool). Ends w (if_fit (text_if b text) p) (Stops (stop_of r))) (sym unfit) (stopped w text (stop_of r) says))

  pub fit_goes_on : (result : Result Answer Refusal) → misfit ≡ false → Follows end_of w p result → Follows end_of w (if_fit (text_if misfit text) p) result
  fit_goes_on result fit follows = subst (λ (b : Bool). Follows end_of w (if_fit (text_if b text) p) result) (sym fit) follows

-- ---- a name for standard input
module _ (w : Reads) (name : Option (List ℕ)) (given : List (List ℕ)) (p : Plan) where
  pub named_in_vain : (r : Refusal) → names_nothing name given ≡ true → IsInWords nothing_named r → Follows end_of w (if_fit (text_if (names_nothing name given) nothing_named) p) (Err r)
  named_in_vain r vain is = misfit_said w (names_nothing name given) nothing_named p r vain is

  pub named_well : (result : Result Answer Refusal) → names_nothing name given ≡ false → Follows end_of w p result → Follows end_of w (if_fit (text_if (names_nothing name given) nothing_named) p) result
  named_well result well follows = fit_goes_on w (names_nothing name given) nothing_named p result well follows

-- a name that is told is there
pub option_named : {X Y : Type 0} (value : X → Y) (o : Option X) → is_some (option_map value o) ≡ is_some o
option_named value None = refl
option_named value (Some x) = refl
