-- What a terminal changes of a run: which words have a line on what to try next, and that all others have the plan that they have without it.
use Rattle.std.specs.Prelude.{◌∷◌, ◌≡◌, Err, List, None, Option, Some, [], codes, false, map, true, ℕ}
use Rattle.clap.specs.Simple.{subcommand_of}
use Rattle.clap.specs.Walk.{Text}
use Rattle.hwdb_spec.specs.declared.errors.ToolError.TheVariants.{TooLong}
use Rattle.hwdb_spec_commands.specs.CommandLine.{hwdb_app}
use Rattle.hwdb_spec_commands.specs.DeviceTree.{Sight}
use Rattle.hwdb_spec_commands.specs.Told.Stop.{Over, Says}
use Rattle.hwdb_spec_commands.specs.declared.unread.Unread.TheVariants as unread
use Rattle.hwdb_spec_program.specs.ProgramPlan.{advice_given, program_plan, shown_plan}
use Rattle.hwdb_plan.specs.Advice.{advised}
use Rattle.hwdb_plan.specs.Answers.{explain_plan, query_plan}
use Rattle.hwdb_plan.specs.Plans.{Plan}
use Rattle.hwdb_plan.specs.Plans.End.{Stops}
use Rattle.hwdb_plan.specs.Plans.Plan.{Done}
use Rattle.hwdb_plan.specs.Requests.{Around}

-- without a terminal the plan of words is theirs
abbrev pub UnseenIsPlain : Type 0
UnseenIsPlain = (a : Around) (words : List Text) → shown_plan false a words ≡ program_plan a words

-- on a terminal it is, too, of words that have no line
abbrev pub UnadvisedIsPlain : Type 0
UnadvisedIsPlain = (a : Around) (words : List Text) → advice_given (subcommand_of hwdb_app words) ≡ None → shown_plan true a words ≡ program_plan a words

-- the line of words after the program's name
abbrev pub line_of : (words : List Text) → Option Text
line_of words = advice_given (subcommand_of hwdb_app (codes "hwdb" ∷ words))

-- Which words have one: `explain`, `near` and `device`, and neither `query`, `list`, `ask` and `update` nor `explain -`.
abbrev pub LineRows : Type 0
LineRows =
    (map line_of ((codes "explain" ∷ codes "--json" ∷ codes "usb:v1" ∷ []) ∷ (codes "near" ∷ codes "f" ∷ codes "usb:v1" ∷ []) ∷ (codes "device" ∷ codes "event4" ∷ []) ∷ (codes "device" ∷ codes "--from" ∷ codes "f" ∷ []) ∷ [])
    ≡ Some (codes "hwdb: no pattern matches: 'hwdb near' says where each stops\n") ∷ Some (codes "hwdb: no pattern is near: 'hwdb device' says what udev asks for a device\n")
    ∷ Some (codes "hwdb: nothing is asked: 'hwdb device' lists the devices for which something is, --root DIR those below another root\n")
    ∷ Some (codes "hwdb: nothing is asked: 'hwdb device' lists the devices for which something is, --root DIR those below another root\n") ∷ [])
    × (map line_of ((codes "query" ∷ codes "usb:v1" ∷ []) ∷ (codes "list" ∷ codes "usb:v1" ∷ []) ∷ (codes "ask" ∷ codes "f" ∷ codes "usb:v1" ∷ []) ∷ (codes "update" ∷ []) ∷ (codes "explain" ∷ codes "-" ∷ []) ∷ [] ∷ [])
    ≡ None ∷ None ∷ None ∷ None ∷ None ∷ None ∷ [])

-- the plan of a run on a terminal with these words after the program's name
abbrev pub shown : Around → (words : List Text) → Option Plan
shown a words = shown_plan true a (codes "hwdb" ∷ words)

-- The plan with the line, and the plans of words that have none.
abbrev pub ShownRows : Type 0
ShownRows =
    (a : Around)
    → shown a (codes "explain" ∷ codes "usb:v1" ∷ []) ∷ shown a (codes "explain" ∷ codes "-" ∷ []) ∷ shown a (codes "query" ∷ codes "usb:v1" ∷ []) ∷ []
    ≡ Some (advised (codes "hwdb: no pattern matches: 'hwdb near' says where each stops\n") (explain_plan [] false (codes "usb:v1"))) ∷ Some (explain_plan [] false (codes "-"))
    ∷ Some (query_plan [] false (codes "usb:v1" ∷ [])) ∷ []

-- An error stays as it is: standard input is too long, or words don't fit `--text`.
abbrev pub ShownErrorRows : Type 0
ShownErrorRows =
    (sight : Sight) (cause : List ℕ) → let a : Around = record { input = Err unread.TooLong; sight = sight; cause = cause } in
    map (shown a) ((codes "near" ∷ codes "-" ∷ codes "a" ∷ []) ∷ (codes "near" ∷ codes "--text" ∷ codes "f" ∷ codes "a" ∷ []) ∷ [])
    ≡ Some (Done (Stops (Over TooLong (codes "standard input") None))) ∷ Some (Done (Stops (Says (codes "--text and FILE are two sources: leave out one of them")))) ∷ []
