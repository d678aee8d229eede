-- The plan of `dump`. Our choice.
use Rattle.std.specs.Prelude.{ℕ, List, [], None, Option, Some}
use Rattle.hwdb_spec_commands.specs.Asked.{unsayable_text}
use Rattle.hwdb_spec.specs.Assignment.{Assignment}
use Rattle.hwdb_spec_commands.specs.Dump.{dump_text, dumped, first_unsaid}
use Rattle.hwdb_spec_commands.specs.Told.{Stop}
use Rattle.hwdb_spec_commands.specs.Told.Stop.{Over, Plain, Says}
use Rattle.hwdb_spec.specs.declared.DbFault.{DbFault}
use Rattle.hwdb_spec.specs.declared.errors.DumpError.{DumpError}
use Rattle.hwdb_spec.specs.declared.errors.DumpError.TheVariants as dumping
use Rattle.hwdb_spec.specs.declared.errors.ToolError.{ToolError}
use Rattle.hwdb_spec.specs.declared.errors.ToolError.TheVariants.{BadDatabase, Memory as OutOfMemory}
use Rattle.hwdb_plan.specs.Asking.{named}
use Rattle.hwdb_plan.specs.Plans.{Next, Plan}
use Rattle.hwdb_plan.specs.Plans.End.{Answers, Stops}
use Rattle.hwdb_plan.specs.Plans.Plan.{Decode, Done}

-- the fault that bytes have which are no database, with their path
abbrev pub bad_database : (path : List ℕ) → DbFault → Stop
bad_database path f = Over (BadDatabase f) path None

-- what an error of answering from the bytes of a database becomes
abbrev pub database_stop : (path : List ℕ) → ToolError → Stop
database_stop path (BadDatabase f) = bad_database path f
database_stop path error = Plain error

-- the text, with status 0; or the pattern of the first assignment that no text says
abbrev pub if_said : (path : List ℕ) (unsaid : Option Assignment) (text : List ℕ) → Plan
if_said path None text = Done (Answers 0 [] text)
if_said path (Some a) text = Done (Stops (Says (unsayable_text path a.position.pattern)))

-- the database as a text
abbrev pub text_form : Next
text_form path bytes = Decode bytes (bad_database path) (λ t. if_said path (first_unsaid (dumped t)) (dump_text t))

-- that of the database that the words name
abbrev pub dump_plan : (given : Option (List ℕ)) (root : List ℕ) → Plan
dump_plan given root = named given root text_form

-- what an error of the call becomes
abbrev pub dump_stop : (path : List ℕ) → DumpError → Stop
dump_stop path (dumping.Database f) = bad_database path f
dump_stop path (dumping.Unsayable pattern) = Says (unsayable_text path pattern.items)
dump_stop path dumping.Memory = Plain OutOfMemory
