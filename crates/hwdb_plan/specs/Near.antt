-- The plan of `near`. Our choice.
use Rattle.std.specs.Prelude.{ℕ, List, [], ◌∷◌, Result}
use Rattle.hwdb_spec_commands.specs.Near.{PatternAt}
use Rattle.hwdb_spec_commands.specs.NearAsked.{database_patterns, patterns_from}
use Rattle.hwdb_spec_commands.specs.declared.unread.Unread.{Unread}
use Rattle.hwdb_plan.specs.Asking.{asked}
use Rattle.hwdb_plan.specs.Dump.{bad_database}
use Rattle.hwdb_plan.specs.Plans.{Next, Plan}
use Rattle.hwdb_plan.specs.Plans.End.{Answers}
use Rattle.hwdb_plan.specs.Plans.Plan.{Decode, Done}
use Rattle.hwdb_plan.specs.Requests.{Request, told_plan}
use Rattle.hwdb_plan.specs.Requests.Request.{Alone, Texts}

-- what is printed of the patterns of a database
abbrev pub near_database : (form : List PatternAt → List ℕ) → Next
near_database form path bytes = Decode bytes (bad_database path) (λ t. Done (Answers 0 [] (form (database_patterns t))))

-- those of the files that words name, or without one of the database that is asked
abbrev pub near_request : (given : List (List ℕ)) (root : List ℕ) (form : List PatternAt → List ℕ) → Request
near_request [] root form = Alone (asked root (near_database form))
near_request (path ∷ more) root form =
    Texts (path ∷ more) (path ∷ more) (λ sources. Alone (Done (Answers 0 [] (form (patterns_from 1 sources)))))

-- its plan
abbrev pub near_plan : (told : Result (List ℕ) Unread) (given : List (List ℕ)) (root : List ℕ) (form : List PatternAt → List ℕ) → Plan
near_plan told given root form = told_plan told (near_request given root form)
