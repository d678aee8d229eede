-- The plan of `verify`. Our choice.
use Rattle.std.specs.Prelude.{ℕ, List, [], Option, length}
use Rattle.hwdb_spec_commands.specs.Summary.{summary_of, summary_text}
use Rattle.hwdb_spec_commands.specs.Told.{Stop}
use Rattle.hwdb_spec_commands.specs.Told.Stop.{Plain, Says}
use Rattle.hwdb_spec_commands.specs.Verdicts.{verdict_text}
use Rattle.hwdb_spec.specs.declared.errors.ToolError.TheVariants.{Memory as OutOfMemory}
use Rattle.hwdb_spec.specs.declared.errors.VerifyError.{VerifyError}
use Rattle.hwdb_spec.specs.declared.errors.VerifyError.TheVariants as verifying
use Rattle.hwdb_plan.specs.Asking.{named}
use Rattle.hwdb_plan.specs.Plans.{Next, Plan}
use Rattle.hwdb_plan.specs.Plans.End.{Answers}
use Rattle.hwdb_plan.specs.Plans.Plan.{Decode, Done}

-- how much is in the database, with status 0; or what is wrong with its bytes
abbrev pub summary : Next
summary path bytes = Decode bytes (λ f. Says (verdict_text path f)) (λ t. Done (Answers 0 [] (summary_text (summary_of (length bytes) t))))

-- that of the database that the words name
abbrev pub verify_plan : (given : Option (List ℕ)) (root : List ℕ) → Plan
verify_plan given root = named given root summary

-- what an error of the call becomes
abbrev pub verify_stop : (path : List ℕ) → VerifyError → Stop
verify_stop path (verifying.Database f) = Says (verdict_text path f)
verify_stop path verifying.Memory = Plain OutOfMemory
