-- The plan of `test`. Our choice.
use Rattle.std.specs.Prelude.{ℕ, Bool, List, [], Option, Result}
use Rattle.hwdb_spec.specs.Folders.{Source}
use Rattle.hwdb_spec_commands.specs.Wanted.{test_status, test_text}
use Rattle.hwdb_spec_commands.specs.declared.unread.Unread.{Unread}
use Rattle.hwdb_plan.specs.Asking.{named}
use Rattle.hwdb_plan.specs.Dump.{bad_database}
use Rattle.hwdb_plan.specs.Plans.{Next, Plan}
use Rattle.hwdb_plan.specs.Plans.End.{Answers}
use Rattle.hwdb_plan.specs.Plans.Plan.{Decode, Done}
use Rattle.hwdb_plan.specs.Requests.{Request, told_plan}
use Rattle.hwdb_plan.specs.Requests.Request.{Alone, Texts}

-- what test files say of the database, with status 1 if a wanted line doesn't hold
abbrev pub tested : (json : Bool) → List Source → Next
tested json sources path bytes = Decode bytes (bad_database path) (λ t. Done (Answers (test_status sources t) [] (test_text json sources t)))

-- the files are read first, and then the database that the words name
abbrev pub test_request : (given : List (List ℕ)) (database : Option (List ℕ)) (root : List ℕ) (json : Bool) → Request
test_request given database root json = Texts given given (λ sources. Alone (named database root (tested json sources)))

-- its plan
abbrev pub test_plan : (told : Result (List ℕ) Unread) (given : List (List ℕ)) (database : Option (List ℕ)) (root : List ℕ) (json : Bool) → Plan
test_plan told given database root json = told_plan told (test_request given database root json)
