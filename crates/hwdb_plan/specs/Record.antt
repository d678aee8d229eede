-- The plan of `test --record`. That a lone `-` stands for standard input is from POSIX, Utility Syntax Guidelines, 13; the rest is our choice.
use Rattle.std.specs.Prelude.{ℕ, Bool, List, [], None, Option, Some, Result, flat_map, if◌then◌else◌}
use Rattle.hwdb_spec.specs.Folders.{Source}
use Rattle.hwdb_spec.specs.Texts.{devices_of}
use Rattle.hwdb_spec_commands.specs.Given.{is_input}
use Rattle.hwdb_spec_commands.specs.Jobs.{text_if}
use Rattle.hwdb_spec_commands.specs.Recorded.{no_json_text, recorded_text, unsaid}
use Rattle.hwdb_spec_commands.specs.Told.Stop.{Says}
use Rattle.hwdb_spec_commands.specs.declared.unread.Unread.{Unread}
use Rattle.hwdb_plan.specs.Asking.{named}
use Rattle.hwdb_plan.specs.Dump.{bad_database}
use Rattle.hwdb_plan.specs.Plans.{Next, Plan}
use Rattle.hwdb_plan.specs.Plans.End.{Answers, Stops}
use Rattle.hwdb_plan.specs.Plans.Plan.{Decode, Done}
use Rattle.hwdb_plan.specs.Requests.{Request, told_plan}
use Rattle.hwdb_plan.specs.Requests.Request.{Alone, Fit, Texts}

-- ---- the devices
-- the words that are read as a file: a lone `-`, or none
abbrev pub read_words : (words : List (List ℕ)) → List (List ℕ)
read_words words = if is_input words then words else []

-- the devices that words name, or those of the files that are read, a line each
abbrev pub devices_meant : (words : List (List ℕ)) → List Source → List (List ℕ)
devices_meant words sources = if is_input words then flat_map (λ (s : Source). devices_of s.bytes) sources else words

-- ---- the plan
-- a text, with status 0; or the words of why there is none
abbrev pub if_sayable : (words : Option (List ℕ)) (text : List ℕ) → Plan
if_sayable None text = Done (Answers 0 [] text)
if_sayable (Some words) text = Done (Stops (Says words))

-- the test file of some devices that holds of a database
abbrev pub recorded : (devices : List (List ℕ)) → Next
recorded devices path bytes = Decode bytes (bad_database path) (λ t. if_sayable (unsaid t devices) (recorded_text t devices))

-- standard input is read first, if it names the devices, and then the database that the words name
abbrev pub devices_request : (words : List (List ℕ)) (database : Option (List ℕ)) (root : List ℕ) → Request
devices_request words database root = Texts (read_words words) (read_words words) (λ sources. Alone (named database root (recorded (devices_meant words sources))))

-- the same; but before anything is read it is an error if JSON is asked for
abbrev pub record_request : (json : Bool) (words : List (List ℕ)) (database : Option (List ℕ)) (root : List ℕ) → Request
record_request json words database root = Fit (text_if json no_json_text) (devices_request words database root)

-- ---- the plans of these
abbrev pub devices_plan : (told : Result (List ℕ) Unread) (words : List (List ℕ)) (database : Option (List ℕ)) (root : List ℕ) → Plan
devices_plan told words database root = told_plan told (devices_request words database root)

abbrev pub record_plan : (told : Result (List ℕ) Unread) (json : Bool) (words : List (List ℕ)) (database : Option (List ℕ)) (root : List ℕ) → Plan
record_plan told json words database root = told_plan told (record_request json words database root)
