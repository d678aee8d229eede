-- What is so of every plan that says a text after the rest. Our choice.
use Rattle.std.specs.Prelude.{◌≡◌, ℕ, List, [], MatchResult, Err, Result}
use Rattle.hwdb_spec.specs.declared.errors.ToolError.TheVariants.{Write}
use Rattle.hwdb_spec_commands.specs.Runs.{HasTaken, Told, WasCut}
use Rattle.hwdb_spec_commands.specs.Told.{Reads}
use Rattle.hwdb_spec_commands.specs.declared.refusals.Refusal.{Refusal}
use Rattle.hwdb_spec_commands.specs.declared.refusals.Refusal.TheVariants.{Plain}
use Rattle.hwdb_plan.specs.Ended.{Outs, Shows}
use Rattle.hwdb_plan.specs.OverText.{said_after, with_after}
use Rattle.hwdb_plan.specs.Plans.{End, Ends, Plan}
use Rattle.hwdb_plan.specs.Plans.End.{Answers, Lines, Replaces, Scans, Stops, Streams}

-- what a plan ends in, with the text after it `said_after` of the plan ends in
abbrev pub SaidIsAfter : Type 0
SaidIsAfter = (text : List ℕ) (w : Reads) (p : Plan) (e : End) → Ends w p e → Ends w (said_after text p) (with_after text e)

-- and in nothing else
abbrev pub SaidIsNoMore : Type 0
SaidIsNoMore = (text : List ℕ) (w : Reads) (p : Plan) (e : End) → Ends w (said_after text p) e → (f : End) × Ends w p f × (e ≡ with_after text f)

-- an end may be followed by a text: an error or an answer by any, all others by none
abbrev pub MayFollow : (text : List ℕ) → End → Type 0
MayFollow text (Stops s) = Unit {0}
MayFollow text (Answers status err out) = Unit {0}
MayFollow text (Lines lines) = text ≡ []
MayFollow text (Streams of_lines) = text ≡ []
MayFollow text (Scans path count) = text ≡ []
MayFollow text (Replaces folder bytes said status) = text ≡ []

-- A run had a first result, and left both outputs so. If it was done, a text was said to standard output then, or that failed. An empty text
-- changes nothing.
pub record WasSaid (text : List ℕ) (middle now : Outs) (first result : Result ℕ Refusal) : Type 0 where
  pub quiet : text ≡ [] → (now ≡ middle) × (result ≡ first)
  pub err : now.err ≡ middle.err
  pub said : MatchResult first
      (λ n. MatchResult result (λ m. (m ≡ n) × HasTaken text middle.out now.out) (λ r. (r ≡ Plain Write) × WasCut text middle.out now.out))
      (λ r. (result ≡ Err r) × (now ≡ middle))

-- a run that shows an end, and then says a text, shows the end with the text after it
abbrev pub ShowsAfter : Type 0
ShowsAfter = (text : List ℕ) (e : End) (input_before input_now : Told) (before middle now : Outs) (first result : Result ℕ Refusal) → MayFollow text e
    → Shows e input_before input_now before middle first → WasSaid text middle now first result → Shows (with_after text e) input_before input_now before now result
