-- What is so of every plan.
use Rattle.std.specs.Prelude.{◌≡◌, ◌≢◌, ◌⊎◌, ℕ, Bool, List, Option, Some}
use Rattle.hwdb_spec.specs.Assignment.{Position}
use Rattle.hwdb_spec_commands.specs.Databases.{IsNoDatabase}
use Rattle.hwdb_spec.specs.Folders.{Source}
use Rattle.hwdb_spec.specs.Format.{IsDatabase}
use Rattle.hwdb_spec.specs.Store.{Outcomes, Stored, database_file, database_name, path_in}
use Rattle.hwdb_spec.specs.Texts.{IsSpelling}
use Rattle.hwdb_spec.specs.Tree.{Map, Tree}
use Rattle.hwdb_spec.specs.Written.{IsWritten}
use Rattle.hwdb_spec.specs.declared.DbFault.{DbFault}
use Rattle.hwdb_spec.specs.declared.errors.CompileError.{CompileError}
use Rattle.hwdb_plan.specs.Plans.{AreTooMuch, Asks, End, Ends, Plan, over, reads_over}
use Rattle.hwdb_plan.specs.Plans.End.{Answers, Replaces, Stops}
use Rattle.hwdb_spec_commands.specs.Told.{Reads, Stop}

-- bytes are the database of one tree
abbrev pub OneTree : Type 0
OneTree = (bytes : List ℕ) (t u : Tree) → IsDatabase bytes t → IsDatabase bytes u → t ≡ u

-- a map has one written form
abbrev pub OneForm : Type 0
OneForm = (m : Map) (a b : List ℕ) → IsWritten m a → IsWritten m b → a ≡ b

-- a text spells one position at most
abbrev pub OneSpelling : Type 0
OneSpelling = (p q : Position) (text : List ℕ) → IsSpelling p text → IsSpelling q text → p ≡ q

-- two ends tell two faults of the same bytes
pub record AreFaults (e f : End) : Type 0 where
  pub bytes : List ℕ
  pub bad : DbFault → Stop
  pub one : DbFault
  pub two : DbFault
  pub has_one : IsNoDatabase bytes one
  pub has_two : IsNoDatabase bytes two
  pub is_one : e ≡ Stops (bad one)
  pub is_two : f ≡ Stops (bad two)

-- two ends tell two reasons of files that are too much
pub record AreReasons (e f : End) : Type 0 where
  pub etc : List Source
  pub usr : List Source
  pub most : ℕ
  pub bad : CompileError → Stop
  pub one : CompileError
  pub two : CompileError
  pub has_one : AreTooMuch etc usr most one
  pub has_two : AreTooMuch etc usr most two
  pub is_one : e ≡ Stops (bad one)
  pub is_two : f ≡ Stops (bad two)

-- two ends are one, but for which fault or reason is told
abbrev pub AreAlike : (e f : End) → Type 0
AreAlike e f = (e ≡ f) ⊎ (AreFaults e f ⊎ AreReasons e f)

-- what a plan ends in is the same whoever follows it, but for which fault or reason is told
abbrev pub PlansEndAlike : Type 0
PlansEndAlike = (w : Reads) (p : Plan) (e f : End) → Ends w p e → Ends w p f → AreAlike e f

-- an end that is no error is the only one
abbrev pub DoneIsOne : Type 0
DoneIsOne = (w : Reads) (p : Plan) (e f : End) → ((s : Stop) → e ≢ Stops s) → Ends w p e → Ends w p f → e ≡ f

-- what a plan ends in over other bytes in some places, `over` of the plan ends in over what is there
abbrev pub OverIsOver : Type 0
OverIsOver = (is : List ℕ → Bool) (made : List ℕ) (w : Reads) (p : Plan) (e : End) → Ends (reads_over is made w) p e → Ends w (over is made p) e

-- what `over` of a plan ends in over what is there, the plan ends in over other bytes in these places
abbrev pub OverIsNoMore : Type 0
OverIsNoMore = (is : List ℕ → Bool) (made : List ℕ) (w : Reads) (p : Plan) (e : End) → Ends w (over is made p) e → Ends (reads_over is made w) p e

-- two file systems tell the same of a path
pub record TellOne (w x : Reads) (path : List ℕ) : Type 0 where
  pub input : w.input path ≡ x.input path
  pub text : w.text path ≡ x.text path
  pub database : w.database path ≡ x.database path
  pub names : w.names path ≡ x.names path
  pub folder : w.folder path ≡ x.folder path
  pub ignored : w.ignored path ≡ x.ignored path

-- what a plan doesn't ask doesn't matter
abbrev pub OnlyAskedMatters : Type 0
OnlyAskedMatters = (w x : Reads) (p : Plan) (e : End) → ((path : List ℕ) → Asks p path → TellOne w x path) → Ends w p e → Ends x p e

-- a crash leaves what there was, or the bytes that the plan ends with, in their place
abbrev pub OldOrReplaced : Reads → Plan → Outcomes → Outcomes
OldOrReplaced w p outcomes path v = outcomes path v ⊎ ((folder bytes said : List ℕ) × (status : ℕ) × Ends w p (Replaces folder bytes said status)
    × (path ≡ path_in folder database_name) × (v ≡ Some (database_file bytes)))

-- a crash of a run whose plan ends in an answer leaves what there was
abbrev pub AnswersLeaveAll : Outcomes → Type 0
AnswersLeaveAll outcomes = (w : Reads) (p : Plan) (status : ℕ) (err out : List ℕ) → Ends w p (Answers status err out)
    → (path : List ℕ) (v : Option Stored) → OldOrReplaced w p outcomes path v → outcomes path v
