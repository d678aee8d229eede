-- Steps of functions that compare two sides.
use Rattle.std.proofs.Common.{◌≡◌, ◌∙◌, ◌⊎◌, inl, inr, ap, sym, subst, refl, Bool, true, false, List, [], Option, Result, Ok, Err, ℕ}
use Rattle.std.proofs.Math.Path.{fun_ext}
use Rattle.std.specs.Prelude.{codes, if◌then◌else◌}
use Rattle.std.specs.Result.{IsErrAnd}
use Rattle.hwdb_spec.specs.Folders.{Source}
use Rattle.hwdb_spec.specs.Format.{IsDatabase}
use Rattle.hwdb_spec.specs.Tree.{Tree}
use Rattle.hwdb_spec.specs.declared.errors.DiffError.{DiffError}
use Rattle.hwdb_spec.specs.declared.errors.DiffError.TheVariants.{Memory, New, Old}
use Rattle.hwdb_spec.specs.declared.errors.ToolError.TheVariants as error
use Rattle.hwdb_spec_commands.specs.SampleDevices.{told_changed, told_form, told_said}
use Rattle.hwdb_spec_commands.specs.Reviews.{Review}
use Rattle.hwdb_spec_commands.specs.Databases.{IsDiffText, IsDifferent}
use Rattle.hwdb_spec_commands.specs.DiffErrors.{IsDiffRefusal}
use Rattle.hwdb_spec_commands.specs.Given.{any_dash, is_dash}
use Rattle.hwdb_spec_commands.specs.Jobs.{text_if}
use Rattle.hwdb_spec_commands.specs.Told.{IsStop, Reads, stop_of}
use Rattle.hwdb_spec_commands.specs.Told.Stop.{Says}
use Rattle.hwdb_spec_commands.specs.declared.refusals.Refusal.{Refusal}
use Rattle.hwdb_spec_commands.specs.declared.refusals.Refusal.TheVariants as refusal
use Rattle.hwdb_spec_commands.specs.declared.unread.Unread.{Unread}
use Rattle.hwdb_plan.specs.Asking.{if_read}
use Rattle.hwdb_plan.specs.Diff.{change_of, compared, diff_stop, sides_compared}
use Rattle.hwdb_plan.specs.Files.{OfInput, ReachesFiles, given_files, if_input, read_files}
use Rattle.hwdb_plan.specs.Input.{IsInputTold}
use Rattle.hwdb_plan.specs.Lemmas.Steps.{plainly}
use Rattle.hwdb_plan.specs.OverText.{if_fit}
use Rattle.hwdb_plan.specs.Plans.{End, Ends, Follows, Plan, ReachesValue}
use Rattle.hwdb_plan.specs.Plans.End.{Answers, Stops}
use Rattle.hwdb_plan.specs.Sides.{plain_side, side}

-- ---- what standard input is told
-- it doesn't matter to a side that isn't standard input
one_side : (told other : Result (List ℕ) Unread) (path : List ℕ) → is_dash path ≡ false → (next : List ℕ → Plan) → side told path next ≡ side other path next
one_side told other path plain next =
    ap (λ (b : Bool). if b then if_read (codes "standard input") (λ at bytes. next bytes) told else plain_side path next) plain
    ∙ sym (ap (λ (b : Bool). if b then if_read (codes "standard input") (λ at bytes. next bytes) other else plain_side path next) plain)

one_pair : (told other : Result (List ℕ) Unread) (old_path new_path : List ℕ) (say : Tree → Tree → End) → is_dash old_path ≡ false → is_dash new_path ≡ false
    → sides_compared told old_path new_path say ≡ sides_compared other old_path new_path say
one_pair told other old_path new_path say old new =
    one_side told other old_path old (λ o. side told new_path (λ n. compared old_path new_path o n say))
    ∙ ap (λ (next : List ℕ → Plan). side other old_path next) (fun_ext (λ o. one_side told other new_path new (λ n. compared old_path new_path o n say)))

-- nor to files of which none is
one_files : (told other : Result (List ℕ) Unread) (given : List (List ℕ)) → any_dash given ≡ false → given_files given told given ≡ given_files given other given
one_files told other given none =
    fun_ext (λ next. ap (λ (b : Bool). if_input b told (λ text. read_files given text given [] next)) none
    ∙ sym (ap (λ (b : Bool). if_input b other (λ text. read_files given text given [] next)) none))

module _ (w : Reads) where
  -- what both sides are told, one of which isn't standard input
  pub pair_told : {Y V : Type 0} (of_old : Y → List ℕ) (of_new : V → List ℕ) (old_path new_path : List ℕ) (left left_then : Option (List ℕ)) (before then_ now : ℕ) (old : Result Y Refusal) (new : Result V Refusal)
      → (is_dash old_path ≡ false) ⊎ (is_dash new_path ≡ false) → (is_dash old_path ≡ false → (left_then ≡ left) × (then_ ≡ before)) → (is_dash new_path ≡ false → now ≡ then_)
      → OfInput left before then_ (λ told. ReachesValue of_old w (side told old_path) old) → OfInput left_then then_ now (λ told. ReachesValue of_new w (side told new_path) new)
      → OfInput left before now (λ told. ReachesValue of_old w (side told old_path) old × ReachesValue of_new w (side told new_path) new)
  pair_told of_old of_new old_path new_path left left_then before then_ now old new (inl plain) same_old same_new (t, so, first) (u, is, second) =
      let same = same_old plain in (
        u,
        subst (λ (l : Option (List ℕ)). IsInputTold l before now u) same.0 (subst (λ (n : ℕ). IsInputTold left_then n now u) same.1 is),
        (subst (λ (p : (List ℕ → Plan) → Plan). ReachesValue of_old w p old) (fun_ext (one_side t u old_path plain)) first, second),
      )
  pair_told of_old of_new old_path new_path left left_then before then_ now old new (inr plain) same_old same_new (t, so, first) (u, is, second) = (
    t,
    subst (λ (n : ℕ). IsInputTold left before n t) (sym (same_new plain)) so,
    (first, subst (λ (p : (List ℕ → Plan) → Plan). ReachesValue of_new w p new) (fun_ext (one_side u t new_path plain)) second),
  )

  -- and so of files of devices and both sides, if standard input is read once
  pub files_told : {Y V : Type 0} (texts : Y → List (List ℕ)) (end_of : V → End) (given : List (List ℕ)) (old_path new_path : List ℕ) (say : Tree → Tree → End) (left left_then : Option (List ℕ)) (before then_ now : ℕ)
      (files : Result Y Refusal) (result : Result V Refusal)
      → (any_dash given ≡ true → (is_dash old_path ≡ false) × (is_dash new_path ≡ false)) → (any_dash given ≡ false → (left_then ≡ left) × (then_ ≡ before)) → (any_dash given ≡ true → now ≡ then_)
      → OfInput left before then_ (λ told. ReachesFiles texts given w (given_files given told given) files) → OfInput left_then then_ now (λ told. Follows end_of w (sides_compared told old_path new_path say) result)
      → OfInput left before now (λ told. ReachesFiles texts given w (given_files given told given) files × Follows end_of w (sides_compared told old_path new_path say) result)
  files_told texts end_of given old_path new_path say left left_then before then_ now files result plain same_files same_sides (t, so, first) (u, is, second) = by (any_dash given) refl
    where
      by : (b : Bool) → any_dash given ≡ b → OfInput left before now (λ told. ReachesFiles texts given w (given_files given told given) files × Follows end_of w (sides_compared told old_path new_path say) result)
      by true dash = (
        t,
        subst (λ (n : ℕ). IsInputTold left before n t) (sym (same_sides dash)) so,
        (first, subst (λ (p : Plan). Follows end_of w p result) (one_pair u t old_path new_path say (plain dash).0 (plain dash).1) second),
      )
      by false none =
          let same = same_files none in (
            u,
            subst (λ (l : Option (List ℕ)). IsInputTold l before now u) same.0 (subst (λ (n : ℕ). IsInputTold left_then n now u) same.1 is),
            (subst (λ (p : (List Source → Plan) → Plan). ReachesFiles texts given w p files) (one_files t u given none) first, second),
          )

  -- ---- two databases
  module _ (one : (bytes : List ℕ) (t u : Tree) → IsDatabase bytes t → IsDatabase bytes u → t ≡ u) (r : Review) (sources : List Source) (old_path new_path old new : List ℕ) where
    abbrev Compared : Plan
    Compared = compared old_path new_path old new (change_of r sources)

    -- they are compared
    pub compared_end : (answer : Bool) (status : ℕ) (err out : List ℕ) → IsDiffText (told_form r sources) old new out → IsDiffText (told_said r sources) old new err
        → IsDifferent (told_changed r sources) old new answer → status ≡ (if answer then 1 else 0) → Ends w Compared (Answers status err out)
    unfolding Ends
    compared_end answer status err out text said differs says =
        inl (text.old_tree, text.old_database, inl (text.new_tree, text.new_database, same))
      where
        -- what two trees give is what the text's two do
        as_text : {X : Type 0} (f : Tree → Tree → X) (t u : Tree) → IsDatabase old t → IsDatabase new u → f t u ≡ f text.old_tree text.new_tree
        as_text f t u is_old is_new = ap (λ (v : Tree). f v u) (one old t text.old_tree is_old text.old_database)
            ∙ ap (f text.old_tree) (one new u text.new_tree is_new text.new_database)

        status_is : status ≡ (if told_changed r sources text.old_tree text.new_tree then 1 else 0)
        status_is = says ∙ ap (λ (b : Bool). if b then 1 else 0) (differs.is ∙ as_text (told_changed r sources) differs.old_tree differs.new_tree differs.old_database differs.new_database)

        said_is : err ≡ told_said r sources text.old_tree text.new_tree
        said_is = said.is ∙ as_text (told_said r sources) said.old_tree said.new_tree said.old_database said.new_database

        same : Answers status err out ≡ change_of r sources text.old_tree text.new_tree
        same = λ i. Answers (status_is i) (said_is i) (text.is i)

    -- or one of them is none
    pub uncompared_end : (e : DiffError) (r : Refusal) → IsDiffRefusal old new e → IsStop (diff_stop old_path new_path e) r → (r ≡ refusal.Plain error.Memory) ⊎ Ends w Compared (Stops (stop_of r))
    unfolding Ends
    uncompared_end e r is (inl memory) = inl memory
    uncompared_end (Old f) r none (inr says) = inr (inr (f, none, ap Stops says))
    uncompared_end (New f) r none (inr says) = inr (inl (none.tree, none.old_database, inr (f, none.refused, ap Stops says)))
    uncompared_end Memory r is (inr says) = inl (plainly r says)

  -- ---- before anything is asked
  module _ {V : Type 0} (end_of : V → End) (words : List ℕ) (p : Plan) where
    pub twice_ends : (twice : Bool) (r : Refusal) → twice ≡ true → (r ≡ refusal.Plain error.Memory) ⊎ (stop_of r ≡ Says words) → Follows end_of w (if_fit (text_if twice words) p) (Err r)
    unfolding Ends
    twice_ends twice r is (inl memory) = inl memory
    twice_ends twice r is (inr says) = inr (subst (λ (b : Bool). Ends w (if_fit (text_if b words) p) (Stops (stop_of r))) (sym is) (ap Stops says))

    pub once_goes : (twice : Bool) (result : Result V Refusal) → twice ≡ false → Follows end_of w p result → Follows end_of w (if_fit (text_if twice words) p) result
    once_goes twice result is follows = subst (λ (b : Bool). Follows end_of w (if_fit (text_if b words) p) result) (sym is) follows

  -- want of memory is one of any plan
  pub memory_follows : {V : Type 0} (end_of : V → End) (p : Plan) (result : Result V Refusal) → IsErrAnd result (λ r. r ≡ refusal.Plain error.Memory) → Follows end_of w p result
  memory_follows end_of p (Ok v) is = absurd is
  memory_follows end_of p (Err r) is = inl is
