-- Steps of an update that follow its plan.
use Rattle.std.proofs.Common.{◌≡◌, ◌∙◌, ◌⊎◌, ◌++◌, inl, inr, ap, sym, subst, refl, Bool, true, false, List, Option, None, Some, Result, Ok, Err, ℕ}
use Rattle.std.specs.Result.{IsErrAnd}
use Rattle.hwdb_spec.specs.CompileErrors.{IsRefusal}
use Rattle.hwdb_spec.specs.Errors.{refusal_of_compile}
use Rattle.hwdb_spec.specs.Folders.{FaultIn, Source, faults_of_files}
use Rattle.hwdb_spec.specs.Format.{IsDatabase}
use Rattle.hwdb_spec.specs.Texts.{max_file}
use Rattle.hwdb_spec.specs.Tree.{Tree}
use Rattle.hwdb_spec.specs.declared.errors.CompileError.{CompileError}
use Rattle.hwdb_spec.specs.declared.errors.CompileError.TheVariants as compiling
use Rattle.hwdb_spec.specs.declared.errors.ToolError.TheVariants as error
use Rattle.hwdb_spec_commands.specs.Progress.{update_text}
use Rattle.hwdb_spec_commands.specs.Runs.{AreKept, Files, Told}
use Rattle.hwdb_spec_commands.specs.Summary.{depth}
use Rattle.hwdb_spec_commands.specs.Told.{IsReadTo, Reads, stop_of}
use Rattle.hwdb_spec_commands.specs.Told.Stop.{Plain}
use Rattle.hwdb_spec_commands.specs.declared.refusals.Refusal.{Refusal}
use Rattle.hwdb_spec_commands.specs.declared.refusals.Refusal.TheVariants as refusal
use Rattle.hwdb_plan.specs.Plans.{AreMadeOf, End, Ends, IsOfNone, Plan, ReachesValue}
use Rattle.hwdb_plan.specs.Plans.End.{Replaces, Stops}
use Rattle.hwdb_plan.specs.Put.{put_plan}
use Rattle.hwdb_plan.specs.Putting.{PutsEnd}
use Rattle.hwdb_plan.specs.Update.{if_seen, is_some_lost, lost_in, lost_of}

-- ---- what is lost
-- whether something is lost by bytes goes by the database that they are, if they are one
abbrev pub IsLostBy : (bytes : List ℕ) (lost : Bool) → Type 0
IsLostBy bytes lost = ((t : Tree) × IsDatabase bytes t × (lost ≡ is_some_lost (Some t))) ⊎ (IsOfNone bytes × (lost ≡ true))

-- the same of bytes that there may be
abbrev pub IsLostIf : Option (List ℕ) → (lost : Bool) → Type 0
IsLostIf None lost = lost ≡ false
IsLostIf (Some bytes) lost = IsLostBy bytes lost

module _ (w : Reads) where
  lost_goes : (found : Option (List ℕ)) (lost : Bool) → IsLostIf found lost → (next : Bool → Plan) (e : End) → Ends w (next lost) e → Ends w (lost_of found next) e
  unfolding Ends
  lost_goes None lost is next e ends = subst (λ (b : Bool). Ends w (next b) e) is ends
  lost_goes (Some bytes) lost (inl (t, of, is)) next e ends = inl (t, of, subst (λ (b : Bool). Ends w (next b) e) is ends)
  lost_goes (Some bytes) lost (inr (none, is)) next e ends = inr (none, subst (λ (b : Bool). Ends w (next b) e) is ends)

  -- what is in a place was read
  pub lost_told : {Y : Type 0} (value : Y → Option (List ℕ)) (path : List ℕ) (y : Y) (lost : Bool) → IsReadTo value (w.database path) path (Ok y) → IsLostIf (value y) lost
      → (next : Bool → Plan) (e : End) → Ends w (next lost) e → Ends w (lost_in path next) e
  unfolding Ends
  lost_told value path y lost told is next e ends = subst (λ a. Ends w (if_seen path (λ found. lost_of found next) a) e) (sym told) (lost_goes (value y) lost is next e ends)

  -- it can't be
  pub lost_untold : {Y : Type 0} (value : Y → Option (List ℕ)) (path : List ℕ) (r : Refusal) → IsReadTo value (w.database path) path (Err r)
      → (r ≡ refusal.Plain error.Memory) ⊎ ((next : Bool → Plan) → Ends w (lost_in path next) (Stops (stop_of r)))
  unfolding Ends
  lost_untold value path r (inl memory) = inl memory
  lost_untold value path r (inr (u, untold, says)) = inr (λ next. subst (λ a. Ends w (if_seen path (λ found. lost_of found next) a) (Stops (stop_of r))) (sym untold) (ap Stops says))

-- ---- a database in its place
nothing_changed : (files : Files) → AreKept files files
nothing_changed files = record { same = λ p. refl; no_more = λ p v l. l }

module _ (w : Reads) (loss : List ℕ) (etc usr : List Source) (listed : Option (List (List ℕ))) (answer : List FaultIn → ℕ) (folder : List ℕ) where
  abbrev Put : Plan
  Put = put_plan loss etc usr listed answer folder

  -- the files make a database, and these are the text and the status that go with it
  pub put_end : (bytes said : List ℕ) (status : ℕ) (t : Tree) → AreMadeOf etc usr max_file bytes → IsDatabase bytes t → said ≡ loss ++ update_text listed etc usr (depth t)
      → status ≡ answer (faults_of_files etc usr) → Ends w Put (Replaces folder bytes said status)
  unfolding Ends
  put_end bytes said status t made is text same =
      inl (bytes, made, inl (t, is, ap (λ (x : List ℕ). Replaces folder bytes x status) text ∙ ap (Replaces folder bytes (loss ++ update_text listed etc usr (depth t))) same))

  -- they make none
  pub unput_end : (e : CompileError) (r : Refusal) (files : Files) (told : Told) → IsRefusal etc usr max_file e → r ≡ refusal.Plain (refusal_of_compile e) → PutsEnd w Put files files told told (Err r)
  unfolding Ends
  unput_end compiling.Memory r files told much is = inr (is, refl, nothing_changed files)
  unput_end compiling.TooManyFiles r files told much is =
      inl (Stops (Plain error.TooManyFiles), inr (compiling.TooManyFiles, much, refl), (ap stop_of is, nothing_changed files, refl))
  unput_end compiling.TooManyLines r files told much is =
      inl (Stops (Plain error.TooManyLines), inr (compiling.TooManyLines, much, refl), (ap stop_of is, nothing_changed files, refl))
  unput_end compiling.TooLarge r files told much is =
      inl (Stops (Plain error.TooLarge), inr (compiling.TooLarge, much, refl), (ap stop_of is, nothing_changed files, refl))

-- ---- handed on
-- an error that is the result
pub handed_on : {X V : Type 0} (of : V → X) (w : Reads) (p : (X → Plan) → Plan) (r : Refusal) (result : Result V Refusal) → (r ≡ refusal.Plain error.Memory) ⊎ ((next : X → Plan) → Ends w (p next) (Stops (stop_of r)))
    → IsErrAnd result (λ x. x ≡ r) → ReachesValue of w p result
handed_on of w p r (Ok v) why is = absurd is
handed_on of w p r (Err x) (inl memory) is = inl (is ∙ memory)
handed_on of w p r (Err x) (inr ends) is = inr (λ next. subst (λ (y : Refusal). Ends w (p next) (Stops (stop_of y))) (sym is) (ends next))
