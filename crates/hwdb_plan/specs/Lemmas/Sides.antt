-- Steps of functions that read a side of `diff`, or what text files make.
use Rattle.std.proofs.Common.{◌≡◌, ◌∙◌, ◌⊎◌, ◌∷◌, ◌==◌, arith, eqb-true, inl, inr, ap, sym, subst, refl, Bool, true, false, List, [], length, Result, Ok, Err, IfErr, IfOk, ℕ}
use Rattle.std.specs.Prelude.{codes, if◌then◌else◌}
use Rattle.std.specs.Result.{IsErrAnd}
use Rattle.hwdb_spec.specs.CompileErrors.{IsRefusal}
use Rattle.hwdb_spec.specs.Errors.{refusal_of_compile}
use Rattle.hwdb_spec.specs.Folders.{Choice, Source}
use Rattle.hwdb_spec.specs.Texts.{max_file}
use Rattle.hwdb_spec.specs.declared.errors.CompileError.{CompileError}
use Rattle.hwdb_spec.specs.declared.errors.CompileError.TheVariants as compiling
use Rattle.hwdb_spec.specs.declared.errors.ToolError.TheVariants as error
use Rattle.hwdb_spec_commands.specs.Given.{is_dash}
use Rattle.hwdb_spec_commands.specs.Refusals.{IsInWords}
use Rattle.hwdb_spec_commands.specs.Sides.{names_text, no_texts_text}
use Rattle.hwdb_spec_commands.specs.Told.{IsReadTo, Reads, stop_of}
use Rattle.hwdb_spec_commands.specs.Told.Stop.{Says}
use Rattle.hwdb_spec_commands.specs.declared.refusals.Refusal.{Refusal}
use Rattle.hwdb_spec_commands.specs.declared.refusals.Refusal.TheVariants as refusal
use Rattle.hwdb_spec_commands.specs.declared.unread.Unread.{Unread}
use Rattle.hwdb_plan.specs.Asking.{if_read}
use Rattle.hwdb_plan.specs.Files.{AreFiles, ReachesFiles}
use Rattle.hwdb_plan.specs.GivenFolders.{if_few}
use Rattle.hwdb_plan.specs.Plans.{AreMadeOf, Ends, Plan, ReachesValue}
use Rattle.hwdb_plan.specs.Plans.End.{Stops}
use Rattle.hwdb_plan.specs.Plans.Plan.{Input}
use Rattle.hwdb_plan.specs.Sides.{file_bytes, made_at, made_of, own_made, plain_side, root_made, side, taken_from}

-- an error in words
pub in_words_stops : (text : List ℕ) (r : Refusal) → IsInWords text r → (r ≡ refusal.Plain error.Memory) ⊎ (stop_of r ≡ Says text)
in_words_stops text (refusal.Plain e) is = inl (ap refusal.Plain is)
in_words_stops text (refusal.InWords said) is = inr (ap Says is)
in_words_stops text (refusal.At e p c) is = absurd is
in_words_stops text refusal.NoDatabase is = absurd is

module _ (w : Reads) where
  -- ---- files that were read
  -- what comes of them
  pub files_then : {X Z V : Type 0} (texts : X → List (List ℕ)) (names : List (List ℕ)) (of : V → Z) (p : (List Source → Plan) → Plan) (q : List Source → (Z → Plan) → Plan) (x : X) (sources : List Source)
      (result : Result V Refusal) → ReachesFiles texts names w p (Ok x) → AreFiles names (texts x) sources → ReachesValue of w (q sources) result → ReachesValue of w (λ next. p (λ s. q s next)) result
  files_then texts names of p q x sources (Ok v) goes are more = λ next e ends. goes sources are (λ s. q s next) e (more next e ends)
  files_then texts names of p q x sources (Err r) goes are (inl memory) = inl memory
  files_then texts names of p q x sources (Err r) goes are (inr ends) = inr (λ next. goes sources are (λ s. q s next) (Stops (stop_of r)) (ends next))

  -- their error is the result
  pub files_then_stop : {X Z V : Type 0} (texts : X → List (List ℕ)) (names : List (List ℕ)) (of : V → Z) (p : (List Source → Plan) → Plan) (q : List Source → (Z → Plan) → Plan) (r : Refusal)
      (result : Result V Refusal) → ReachesFiles texts names w p (Err r) → IsErrAnd result (λ x. x ≡ r) → ReachesValue of w (λ next. p (λ s. q s next)) result
  files_then_stop texts names of p q r (Ok v) why is = absurd is
  files_then_stop texts names of p q r (Err x) (inl memory) is = inl (is ∙ memory)
  files_then_stop texts names of p q r (Err x) (inr ends) is =
      inr (λ next. subst (λ (y : Refusal). Ends w (p (λ s. q s next)) (Stops (stop_of y))) (sym is) (ends (λ s. q s next)))

  -- want of memory is one of any plan
  pub memory_reached : {X V : Type 0} (of : V → X) (p : (X → Plan) → Plan) (result : Result V Refusal) → IsErrAnd result (λ r. r ≡ refusal.Plain error.Memory) → ReachesValue of w p result
  memory_reached of p (Ok v) is = absurd is
  memory_reached of p (Err r) is = inl is

  -- ---- a result that has a value
  module _ {Y : Type 0} (value : Y → List ℕ) where
    -- files make a database, or are too much for one
    pub made_reached : (etc usr : List Source) (result : Result Y Refusal) → IfOk result (λ y. AreMadeOf etc usr max_file (value y))
        → IfErr result (λ r. (e : CompileError) × (r ≡ refusal.Plain (refusal_of_compile e)) × IsRefusal etc usr max_file e) → ReachesValue value w (made_of etc usr) result
    unfolding Ends
    made_reached etc usr (Ok y) made not = λ next e ends. inl (value y, made, ends)
    made_reached etc usr (Err r) made (e, is, refused) = by e is refused
      where
        by : (e : CompileError) → r ≡ refusal.Plain (refusal_of_compile e) → IsRefusal etc usr max_file e
            → (r ≡ refusal.Plain error.Memory) ⊎ ((next : List ℕ → Plan) → Ends w (made_of etc usr next) (Stops (stop_of r)))
        by compiling.Memory is much = inl is
        by compiling.TooManyFiles is much = inr (λ next. inr (compiling.TooManyFiles, much, ap (λ x. Stops (stop_of x)) is))
        by compiling.TooManyLines is much = inr (λ next. inr (compiling.TooManyLines, much, ap (λ x. Stops (stop_of x)) is))
        by compiling.TooLarge is much = inr (λ next. inr (compiling.TooLarge, much, ap (λ x. Stops (stop_of x)) is))

    -- ---- a folder
    -- one without text files is no side
    pub none_own : (path : List ℕ) (r : Refusal) (result : Result Y Refusal) → IsInWords (no_texts_text path) r → IsErrAnd result (λ x. x ≡ r) → ReachesValue value w (own_made path []) result
    unfolding Ends
    none_own path r (Ok y) why is = absurd is
    none_own path r (Err x) why is = by (in_words_stops (no_texts_text path) r why)
      where
        by : (r ≡ refusal.Plain error.Memory) ⊎ (stop_of r ≡ Says (no_texts_text path)) → (x ≡ refusal.Plain error.Memory) ⊎ ((next : List ℕ → Plan) → Ends w (own_made path [] next) (Stops (stop_of x)))
        by (inl memory) = inl (is ∙ memory)
        by (inr says) = inr (λ next. ap Stops (ap stop_of is ∙ says))

    pub no_own : (path : List ℕ) (names : List (List ℕ)) (r : Refusal) → (length names == 0) ≡ true → IsInWords (no_texts_text path) r → ReachesValue value w (own_made path names) (Err r)
    no_own path [] r none why = none_own path r (Err r) why (refl {A = Refusal} {a = r})
    no_own path (name ∷ more) r none why = absurd (let e = eqb-true (length (name ∷ more)) 0 none in omega (arith, e))

    -- one with them is
    pub some_own : (path : List ℕ) (names : List (List ℕ)) (result : Result Y Refusal) → (length names == 0) ≡ false
        → ReachesValue value w (λ next. if_few path names (λ own. made_at path own next)) result → ReachesValue value w (own_made path names) result
    some_own path [] result some reaches = absurd (cc)
    some_own path (name ∷ more) result some reaches = reaches

    -- one without those of a root, and one with them
    pub no_root : (path : List ℕ) (names : List (List ℕ)) (chosen : List Choice) (texts : List (List ℕ)) (result : Result Y Refusal) → (length chosen == 0) ≡ true → ReachesValue value w (own_made path names) result
        → ReachesValue value w (root_made path names chosen texts) result
    no_root path names [] texts result none reaches = reaches
    no_root path names (c ∷ chosen) texts result none reaches = absurd (let e = eqb-true (length (c ∷ chosen)) 0 none in omega (arith, e))

    pub some_root : (path : List ℕ) (names : List (List ℕ)) (chosen : List Choice) (texts : List (List ℕ)) (result : Result Y Refusal) → (length chosen == 0) ≡ false
        → ReachesValue value w (made_of (taken_from true chosen texts) (taken_from false chosen texts)) result → ReachesValue value w (root_made path names chosen texts) result
    some_root path names [] texts result some reaches = absurd (cc)
    some_root path names (c ∷ chosen) texts result some reaches = reaches

    -- ---- a database
    pub input_reached : (path : List ℕ) (result : Result Y Refusal) → IsReadTo value (w.input path) path result → ReachesValue value w (λ next. Input path (if_read path (λ at bytes. next bytes))) result
    unfolding Ends
    input_reached path (Ok y) told = λ next e ends. subst (λ a. Ends w (if_read path (λ at bytes. next bytes) a) e) (sym told) ends
    input_reached path (Err r) (inl memory) = inl memory
    input_reached path (Err r) (inr (u, untold, says)) =
        inr (λ next. subst (λ a. Ends w (if_read path (λ at bytes. next bytes) a) (Stops (stop_of r))) (sym untold) (ap Stops says))

    abbrev File : (path : List ℕ) → Bool → (List ℕ → Plan) → Plan
    File path b next = if b then made_at path (path ∷ []) next else Input path (if_read path (λ at bytes. next bytes))

    pub text_reached : (path : List ℕ) (result : Result Y Refusal) → names_text path ≡ true → ReachesValue value w (made_at path (path ∷ [])) result → ReachesValue value w (file_bytes path) result
    text_reached path result is reaches = subst (λ b. ReachesValue value w (File path b) result) (sym is) reaches

    pub database_reached : (path : List ℕ) (result : Result Y Refusal) → names_text path ≡ false → IsReadTo value (w.input path) path result → ReachesValue value w (file_bytes path) result
    database_reached path result is told = subst (λ b. ReachesValue value w (File path b) result) (sym is) (input_reached path result told)

    -- ---- a side that words name
    module _ (told : Result (List ℕ) Unread) (path : List ℕ) where
      abbrev Side : Bool → (List ℕ → Plan) → Plan
      Side b next = if b then if_read (codes "standard input") (λ at bytes. next bytes) told else plain_side path next

      of_input : (answer : Result (List ℕ) Unread) (result : Result Y Refusal) → IsReadTo value answer (codes "standard input") result
          → ReachesValue value w (λ next. if_read (codes "standard input") (λ at bytes. next bytes) answer) result
      unfolding Ends
      of_input answer (Ok y) is = λ next e ends. subst (λ a. Ends w (if_read (codes "standard input") (λ at bytes. next bytes) a) e) (sym is) ends
      of_input answer (Err r) (inl memory) = inl memory
      of_input answer (Err r) (inr (u, untold, says)) =
          inr (λ next. subst (λ a. Ends w (if_read (codes "standard input") (λ at bytes. next bytes) a) (Stops (stop_of r))) (sym untold) (ap Stops says))

      -- it is standard input
      pub dash_side : (result : Result Y Refusal) → is_dash path ≡ true → IsReadTo value told (codes "standard input") result → ReachesValue value w (side told path) result
      dash_side result dash is = subst (λ b. ReachesValue value w (Side b) result) (sym dash) (of_input told result is)

      -- it isn't
      pub other_side : (result : Result Y Refusal) → is_dash path ≡ false → ReachesValue value w (plain_side path) result → ReachesValue value w (side told path) result
      other_side result plain reaches = subst (λ b. ReachesValue value w (Side b) result) (sym plain) reaches

      -- then it doesn't matter what standard input is told
      pub any_side : (other : Result (List ℕ) Unread) (result : Result Y Refusal) → is_dash path ≡ false → ReachesValue value w (side other path) result → ReachesValue value w (side told path) result
      any_side other result plain reaches =
          other_side result plain
          (subst (λ b. ReachesValue value w (λ next. if b then if_read (codes "standard input") (λ at bytes. next bytes) other else plain_side path next) result) plain reaches)
