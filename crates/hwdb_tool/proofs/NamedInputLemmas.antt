-- Databases that words name: `-` is standard input.
use Rattle.std.proofs.Common.{Global, Vec, arith, ◌≡◌, ◌≢◌, ◌≤◌, ◌<◌, ◌∙◌, inl, inr, ap, sym, subst, refl, ℕ, Bool, true, false, List, length, Option, None, Some, Result, Ok, Err, IfSome}
use Rattle.std.specs.Prelude.{codes, vec_len}
use Rattle.std.specs.Result.{IsErrAnd}
use Rattle.hwdb_spec.specs.Failures.{HasFailed}
use Rattle.hwdb_spec_program.specs.GivenDatabases.{names_input}
use Rattle.hwdb_spec_commands.specs.Refusals.{IsOfCause}
use Rattle.hwdb_spec.specs.Texts.{max_file}
use Rattle.hwdb_spec_commands.specs.Told.{IsStop, IsUnreadAs, Reads, stop_of, unread_stop}
use Rattle.hwdb_spec_commands.specs.Told.Stop.{Over}
use Rattle.hwdb_spec.specs.declared.causes.Cause.{Cause}
use Rattle.hwdb_spec.specs.declared.causes.Cause.TheVariants as why
use Rattle.hwdb_spec.specs.declared.errors.ReadError.{ReadError}
use Rattle.hwdb_spec.specs.declared.errors.ReadError.TheVariants as reading
use Rattle.hwdb_spec.specs.declared.errors.ToolError.{ToolError}
use Rattle.hwdb_spec.specs.declared.errors.ToolError.TheVariants.{Memory, Read}
use Rattle.hwdb_spec_commands.specs.declared.refusals.Refusal.{Refusal}
use Rattle.hwdb_spec_commands.specs.declared.refusals.Refusal.TheVariants.{At, InWords, NoDatabase, Plain}
use Rattle.hwdb_spec_commands.specs.declared.unread.Unread.{Unread}
use Rattle.hwdb_spec_commands.specs.declared.unread.Unread.TheVariants as unread
use Rattle.hwdb_plan.specs.Asking.{if_read}
use Rattle.hwdb_plan.specs.Input.{IsInputTold, OverGiven, OverInput, OverNamed, reads_with}
use Rattle.hwdb_plan.specs.Lemmas.Steps.{input_told, input_untold, plainly}
use Rattle.hwdb_plan.specs.Plans.{End, Ends, Follows, Next, Plan}
use Rattle.hwdb_plan.specs.Plans.End.{Stops}
use Rattle.hwdb_plan.specs.Plans.Plan.{Input}
use Rattle.hwdb_tool.specs.Internal.{input_stop}

abbrev pub name : List ℕ
name = codes "standard input"

-- ---- why it isn't read
of_cause_stop : (e : ToolError) (path : List ℕ) (cause : Option Cause) (r : Refusal) → IsOfCause e path cause r → IsStop (Over e path cause) r
of_cause_stop e path cause (Plain x) is = inl (ap Plain is)
of_cause_stop e path cause (At x at because) is = inr one
  where
    error_ : x ≡ e
    error_ = is.0

    there : at.items ≡ path
    there = is.1

    why_ : because ≡ cause
    why_ = is.2

    one : Over x at.items because ≡ Over e path cause
    one = cc
of_cause_stop e path cause NoDatabase is = absurd is
of_cause_stop e path cause (InWords text) is = absurd is

pub cause_stop : (c : Cause) (r : Refusal) → c ≢ why.Memory → IsOfCause Read name (Some c) r → IsStop (unread_stop name (unread.Failed (Some c))) r
cause_stop why.Memory r other is = absurd (other refl)
cause_stop c r other is = of_cause_stop Read name (Some c) r is

pub within_of : (text : Vec ℕ Global) (most : ℕ) → vec_len text ≤ most → length text.items ≤ most
within_of text most fits = let same = text.ok.0 in omega (arith, same, fits)

-- an error of `read_all`, as what is told of standard input
module _ (input : Option (List ℕ)) (n m : ℕ) where
  memory_told : (r : Refusal) → r ≡ Plain Memory → (answer : Result (List ℕ) Unread) × IsInputTold input n m answer × IsUnreadAs answer name r
  memory_told r is = (Err unread.Memory, tt, inl is)

  -- by the error of the call, and what is so if it is that
  pub error_told : (e : ReadError) (cause : Option Cause) (r : Refusal) → (e ≡ reading.Failed → HasFailed n m) → (e ≡ reading.TooLong → IfSome input (λ told. max_file < length told))
      → IsStop (input_stop e cause) r → (answer : Result (List ℕ) Unread) × IsInputTold input n m answer × IsUnreadAs answer name r
  error_told e cause r failed long (inl memory) = memory_told r memory
  error_told reading.Failed cause r failed long (inr says) = (Err (unread.Failed cause), failed refl, inr (unread.Failed cause, refl, says))
  error_told reading.TooLong cause r failed long (inr says) = (Err unread.TooLong, long refl, inr (unread.TooLong, refl, says))
  error_told reading.Memory cause r failed long (inr says) = memory_told r (plainly r says)

pub over_dash : (given input : Option (List ℕ)) (n m : ℕ) (w : Reads) (Is : Option (List ℕ) → Reads → Type 0) → names_input given ≡ true
    → OverInput input n m w (λ p. Is (Some p)) → OverNamed given input n m w Is
over_dash None input n m w Is names h = absurd cc
over_dash (Some path) input n m w Is names h = subst (λ (b : Bool). OverGiven b path input n m w (λ p. Is (Some p))) (sym names) h

pub over_file : (given input : Option (List ℕ)) (n m : ℕ) (w : Reads) (Is : Option (List ℕ) → Reads → Type 0) → names_input given ≡ false → Is given w → OverNamed given input n m w Is
over_file None input n m w Is names h = h
over_file (Some path) input n m w Is names h = subst (λ (b : Bool). OverGiven b path input n m w (λ p. Is (Some p))) (sym names) h

-- ---- the question for standard input
module _ {Y : Type 0} (end_of : Y → End) (input : Option (List ℕ)) (n m : ℕ) (next : Next) where
  abbrev Asks' : Plan
  Asks' = Input name (if_read name next)

  -- it isn't read, and that error is handed on
  pub input_unread : (r : Refusal) (result : Result Y Refusal) → ((answer : Result (List ℕ) Unread) × IsInputTold input n m answer × IsUnreadAs answer name r) → IsErrAnd result (λ x. x ≡ r)
      → (w : Reads) → OverInput input n m w (λ path reads. Follows end_of reads (Input path (if_read path next)) result)
  input_unread r (Ok y) told is w = absurd is
  input_unread r (Err x) (answer, so, inl memory) is w = (answer, so, inl (is ∙ memory))
  input_unread r (Err x) (answer, so, inr (u, untold, says)) is w =
      (answer, so, inr (input_untold (reads_with answer w) name u next (stop_of x) untold (ap stop_of is ∙ says)))

  -- it is read, and the result follows what comes then
  pub input_read : (bytes : List ℕ) (result : Result Y Refusal) → ((answer : Result (List ℕ) Unread) × IsInputTold input n m answer × (answer ≡ Ok bytes)) → ((w : Reads) → Follows end_of w (next name bytes) result)
      → (w : Reads) → OverInput input n m w (λ path reads. Follows end_of reads (Input path (if_read path next)) result)
  input_read bytes (Ok y) (answer, so, is) follows w =
      (answer, so, input_told (reads_with answer w) name name bytes next (end_of y) is refl (follows (reads_with answer w)))
  input_read bytes (Err x) (answer, so, is) follows w = (answer, so, by (follows (reads_with answer w)))
    where
      by : Follows end_of (reads_with answer w) (next name bytes) (Err x) → Follows end_of (reads_with answer w) Asks' (Err x)
      by (inl memory) = inl memory
      by (inr ends) = inr (input_told (reads_with answer w) name name bytes next (Stops (stop_of x)) is refl ends)

-- a result that follows what comes after a step follows the plan
pub goes_on : {Y : Type 0} (end_of : Y → End) (w : Reads) (p : Next → Plan) (next : Next) (path bytes : List ℕ) (result : Result Y Refusal)
    → ((n : Next) (e : End) → Ends w (n path bytes) e → Ends w (p n) e) → Follows end_of w (next path bytes) result → Follows end_of w (p next) result
goes_on end_of w p next path bytes (Ok y) step ends = step next (end_of y) ends
goes_on end_of w p next path bytes (Err x) step (inl memory) = inl memory
goes_on end_of w p next path bytes (Err x) step (inr ends) = inr (step next (Stops (stop_of x)) ends)
