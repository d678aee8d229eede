-- The plan of `ask`. Our choice.
use Rattle.std.specs.Prelude.{ℕ, List, []}
use Rattle.hwdb_spec.specs.Errors.{refusal_of_compile}
use Rattle.hwdb_spec.specs.Folders.{faults_of_files}
use Rattle.hwdb_spec_commands.specs.LoneFile.{lone}
use Rattle.hwdb_spec.specs.Texts.{faults_text_at, max_file, query_text}
use Rattle.hwdb_spec_commands.specs.Told.Stop.{Plain}
use Rattle.hwdb_spec.specs.declared.errors.ToolError.TheVariants.{BadDatabase}
use Rattle.hwdb_plan.specs.Asking.{if_read}
use Rattle.hwdb_plan.specs.Plans.{Next, Plan}
use Rattle.hwdb_plan.specs.Plans.End.{Answers}
use Rattle.hwdb_plan.specs.Plans.Plan.{Compile, Decode, Done, Input}

-- the fault lines of one text file, and what it gives the device; what is compiled is always a database
abbrev pub lone_answer : (file device : List ℕ) → Next
lone_answer file device path bytes =
    Compile (lone bytes) [] max_file (λ e. Plain (refusal_of_compile e))
    (λ database. Decode database (λ f. Plain (BadDatabase f))
    (λ t. Done (Answers 0 (faults_text_at file (faults_of_files (lone bytes) [])) (query_text device t))))

-- of what is at a path; words name it as this file
abbrev pub ask_plan : (file device path : List ℕ) → Plan
ask_plan file device path = Input path (if_read path (lone_answer file device))
