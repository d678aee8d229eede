-- The end of `update`'s plan: text files that were read become a database in a folder. That is systemd-hwdb(8)'s; what is said is our choice.
use Rattle.std.specs.Prelude.{◌++◌, ℕ, List, Option}
use Rattle.hwdb_spec.specs.Errors.{refusal_of_compile}
use Rattle.hwdb_spec.specs.Folders.{FaultIn, Source, faults_of_files}
use Rattle.hwdb_spec_commands.specs.Progress.{update_text}
use Rattle.hwdb_spec_commands.specs.Summary.{depth}
use Rattle.hwdb_spec.specs.Texts.{max_file}
use Rattle.hwdb_spec.specs.declared.errors.ToolError.TheVariants.{BadDatabase}
use Rattle.hwdb_spec_commands.specs.Told.Stop.{Plain}
use Rattle.hwdb_plan.specs.Plans.{Plan}
use Rattle.hwdb_plan.specs.Plans.End.{Replaces}
use Rattle.hwdb_plan.specs.Plans.Plan.{Compile, Decode, Done}

-- The database of the text files, put in its place after what is lost, and what is said of them and of its tree; the status goes by their
-- faults. What is compiled is always a database.
abbrev pub put_plan : (loss : List ℕ) (etc usr : List Source) (listed : Option (List (List ℕ))) (answer : List FaultIn → ℕ) (folder : List ℕ) → Plan
put_plan loss etc usr listed answer folder =
    Compile etc usr max_file (λ e. Plain (refusal_of_compile e))
    (λ bytes. Decode bytes (λ f. Plain (BadDatabase f))
    (λ t. Done (Replaces folder bytes (loss ++ update_text listed etc usr (depth t)) (answer (faults_of_files etc usr)))))
