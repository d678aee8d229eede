-- The plans of `query` and `explain`: of the devices of their words, or with a lone `-` of those that standard input names. `query` is
-- systemd-hwdb(8)'s, and so is the database that is asked; the rest is our choice.
use Rattle.std.specs.Prelude.{◌∷◌, ℕ, Bool, List, [], if◌then◌else◌}
use Rattle.hwdb_spec_commands.specs.Given.{is_dash, is_input}
use Rattle.hwdb_spec_commands.specs.Streams.{texts_of}
use Rattle.hwdb_spec_commands.specs.declared.form.Form.{Form}
use Rattle.hwdb_spec_commands.specs.declared.form.Form.TheVariants.{Explain, Query}
use Rattle.hwdb_plan.specs.Asking.{asked}
use Rattle.hwdb_plan.specs.Dump.{bad_database}
use Rattle.hwdb_plan.specs.Plans.{Next, Plan}
use Rattle.hwdb_plan.specs.Plans.End.{Answers, Streams}
use Rattle.hwdb_plan.specs.Plans.Plan.{Decode, Done}

-- what the database gives the devices
abbrev pub answered : Form → (devices : List (List ℕ)) → Next
answered form devices path bytes = Decode bytes (bad_database path) (λ t. Done (Answers 0 [] (texts_of form devices t)))

-- that of the database that is asked
abbrev pub answer_plan : (root : List ℕ) → Form → (devices : List (List ℕ)) → Plan
answer_plan root form devices = asked root (answered form devices)

-- what the database gives each device of standard input, as they come
abbrev pub streamed : Form → Next
streamed form path bytes = Decode bytes (bad_database path) (λ t. Done (Streams (λ lines. texts_of form lines t)))

-- that of the database that is asked
abbrev pub stream_plan : (root : List ℕ) → Form → Plan
stream_plan root form = asked root (streamed form)

-- of the devices that words name, or those of standard input
abbrev pub devices_plan : (from_input : Bool) (root : List ℕ) → Form → (devices : List (List ℕ)) → Plan
devices_plan from_input root form devices = if from_input then stream_plan root form else answer_plan root form devices

-- `query`: a lone `-` stands for standard input
abbrev pub query_plan : (root : List ℕ) (json : Bool) (devices : List (List ℕ)) → Plan
query_plan root json devices = devices_plan (is_input devices) root (Query json) devices

-- `explain`, of one device
abbrev pub explain_plan : (root : List ℕ) (json : Bool) (device : List ℕ) → Plan
explain_plan root json device = devices_plan (is_dash device) root (Explain json) (device ∷ [])
