-- Steps of an update that says first which database hides the new one.
use Rattle.std.proofs.Common.{◌≡◌, ◌∙◌, inl, inr, ap, sym, refl, Bool, true, false, List, [], Option, None, Some, Result, Ok, Err, IfErr, OnOk, if◌then◌else◌, ℕ, true≢false}
use Rattle.std.specs.Prelude.{is_some}
use Rattle.std.specs.Result.{IsErrAnd}
use Rattle.hwdb_plan.specs.Plans.{Ends, Plan}
use Rattle.hwdb_plan.specs.Plans.End.{Answers}
use Rattle.hwdb_plan.specs.Putting.{SaysThen}
use Rattle.hwdb_spec.specs.Store.{Contents}
use Rattle.hwdb_spec.specs.System.{bytes_at}
use Rattle.hwdb_spec.specs.declared.errors.ToolError.TheVariants.{Memory, Write}
use Rattle.hwdb_spec_commands.specs.Asked.{database_path}
use Rattle.hwdb_spec_commands.specs.Runs.{Files, HasTaken, Told, WasCut}
use Rattle.hwdb_spec_commands.specs.Told.{AreReadsOf, Reads}
use Rattle.hwdb_spec_commands.specs.declared.refusals.Refusal.{Refusal}
use Rattle.hwdb_spec_commands.specs.declared.refusals.Refusal.TheVariants.{Plain}
use Rattle.hwdb_spec_commands.specs.declared.unread.Unread.{Unread}
use Rattle.hwdb_spec_program.specs.Hiding.{hiding_line}
use Rattle.hwdb_spec_program.specs.HidingPlan.{hiding_plan, is_there}
use Rattle.hwdb_tool.specs.Emptying.{SaysOnly}

-- ---- whether something is there
module _ (w : Reads) (seen : Contents) (fails : List ℕ → Type 0) (agree : AreReadsOf w seen fails) (root : List ℕ) where
  abbrev place : List ℕ
  place = database_path false root

  there_by : (a : Result (Option (List ℕ)) Unread) → w.database place ≡ a → (b : Bool) → b ≡ is_some (bytes_at seen place) → (b ≡ false → w.database place ≡ Ok None) → is_there a ≡ b
  there_by (Ok None) told b is none = sym (is ∙ ap is_some (agree.database place None told).0)
  there_by (Ok (Some bytes)) told b is none = sym (is ∙ ap is_some (agree.database place (Some bytes) told).0)
  there_by (Err u) told true is none = refl
  there_by (Err u) told false is none = absurd (let both : Err u ≡ Ok None = sym told ∙ none refl in cc)

  -- the line is said, or not
  pub line_ends : (b : Bool) (text : List ℕ) → b ≡ is_some (bytes_at seen place) → (b ≡ false → w.database place ≡ Ok None) → text ≡ (if b then hiding_line root else []) → Ends w (hiding_plan true true root) (Answers 0 text [])
  unfolding Ends
  line_ends b text is none said =
      ap (λ (t : List ℕ). Answers 0 t []) (said ∙ ap (λ (c : Bool). if c then hiding_line root else []) (sym (there_by (w.database place) refl b is none)))

  -- the same of a path, with both options
  pub asked_ends : (usr verbose : Bool) (path : List ℕ) (b : Bool) (text : List ℕ) → usr ≡ true → verbose ≡ true → path ≡ place → b ≡ is_some (bytes_at seen path)
      → (b ≡ false → w.database path ≡ Ok None) → text ≡ (if b then hiding_line root else []) → Ends w (hiding_plan usr verbose root) (Answers 0 text [])
  asked_ends true true path b text u v at is none said = line_ends b text (is ∙ ap (λ p. is_some (bytes_at seen p)) at) (λ e. ap w.database (sym at) ∙ none e) said
  asked_ends true false path b text u v at is none said = absurd (true≢false (sym v))
  asked_ends false verbose path b text u v at is none said = absurd (true≢false (sym u))

-- nothing is asked
pub unset : (b : Bool) → b ≡ false → b ≡ true → ⊥
unset b off on = true≢false (sym on ∙ off)

pub quiet_ends : (w : Reads) (usr verbose : Bool) (root text : List ℕ) → (usr ≡ true → verbose ≡ true → ⊥) → text ≡ [] → Ends w (hiding_plan usr verbose root) (Answers 0 text [])
unfolding Ends
quiet_ends w false verbose root text quiet none = ap (λ (t : List ℕ). Answers 0 t []) none
quiet_ends w true false root text quiet none = ap (λ (t : List ℕ). Answers 0 t []) none
quiet_ends w true true root text quiet none = absurd (quiet refl refl)

-- ---- a text is said
pub said_only : {V : Type 0} (w : Reads) (p : Plan) (text : List ℕ) (err_before err_now : Told) (result : Result V Refusal) → Ends w p (Answers 0 text []) → OnOk result (HasTaken text err_before err_now)
    → IfErr result (λ r. (r ≡ Plain Write) × WasCut text err_before err_now) → SaysOnly w p err_before err_now result
said_only w p text eb en (Ok v) ends took cut = (text, ends, took)
said_only w p text eb en (Err r) ends took cut = inr (text, ends, cut.0, cut.1)

pub no_text : {V : Type 0} (w : Reads) (p : Plan) (told : Told) (result : Result V Refusal) → IsErrAnd result (λ r. r ≡ Plain Memory) → SaysOnly w p told told result
no_text w p told (Ok v) is = absurd is
no_text w p told (Err r) is = inl (is, refl)

-- ---- and then the rest is done
module _ (w : Reads) (p : Plan) (After : Told → Type 0) where
  -- it isn't said
  pub stops_there : (r : Refusal) (files : Files) (err_before err_now : Told) (result : Result ℕ Refusal) → SaysOnly {V = Unit {0}} w p err_before err_now (Err r) → IsErrAnd result (λ x. x ≡ r)
      → SaysThen w p After files files err_before err_now result
  stops_there r files eb en (Ok n) says is = absurd is
  stops_there r files eb en (Err x) (inl (memory, same)) is = inr (is ∙ memory, same, record { same = λ q. refl; no_more = λ q v l. l })
  stops_there r files eb en (Err x) (inr (text, ends, write, cut)) is =
      inl (Answers 0 text [], ends, inl ((is ∙ write, cut), record { same = λ q. refl; no_more = λ q v l. l }))

  -- it is
  pub goes_on : (before now : Files) (err_before err_told err_now : Told) (result : Result ℕ Refusal) → SaysOnly {V = Unit {0}} w p err_before err_told (Ok tt) → After err_told → SaysThen w p After before now err_before err_now result
  goes_on before now eb et en result (text, ends, took) after = inl (Answers 0 text [], ends, inr (et, took, after))
