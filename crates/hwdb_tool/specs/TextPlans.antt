-- What the steps of a run with `--text` hold.
use Rattle.std.specs.Prelude.{◌≤◌, [], List, Option, Result, false, length, option_map, string_bytes, ℕ}
use Rattle.std.specs.Str.{bytes_eq}
use Rattle.hwdb_spec.specs.Texts.{max_file}
use Rattle.hwdb_spec_commands.specs.Asked.{database_path}
use Rattle.hwdb_spec_commands.specs.Given.{is_dash}
use Rattle.hwdb_spec_commands.specs.OverText.{said_besides}
use Rattle.hwdb_spec_commands.specs.declared.job.Task.TheVariants.{Explain}
use Rattle.hwdb_spec_commands.specs.declared.job.Task.{Task}
use Rattle.hwdb_spec_program.specs.ProgramPlan.{files_plan}
use Rattle.hwdb_plan.specs.Requests.{Around}
use Rattle.hwdb_spec_commands.specs.Runs.{Told}
use Rattle.hwdb_spec_commands.specs.Told.{Reads}
use Rattle.hwdb_spec_commands.specs.declared.refusals.Refusal.{Refusal}
use Rattle.hwdb_plan.specs.Ended.{Outs, ShowsEnd}
use Rattle.hwdb_plan.specs.Folders.{Texts}
use Rattle.hwdb_plan.specs.OverText.{is_first, replaced_of}
use Rattle.hwdb_plan.specs.Plans.{Plan, over}
use Rattle.hwdb_system.specs.Reads.{with_read}

-- what a task says besides, by the text files as they are read
abbrev pub besides_for : Task → Texts → List ℕ
besides_for (Explain e) texts = let device = string_bytes e.device in said_besides (is_dash device) (replaced_of e.json device texts)
besides_for task texts = []

-- the plan of words over the files as they are, but that the database of /etc below a root has these bytes
abbrev pub plan_over : (root made : List ℕ) (words : List (List ℕ)) → Around → Option Plan
plan_over root made words a = option_map (over (is_first root) made) (files_plan a words)

-- A run over a file system that has other bytes, no more than a file may have, as the database of /etc below a root: it shows what `over`
-- of its plan ends in over what is there.
abbrev pub TextShowsOver : Type 0
TextShowsOver = (root made : List ℕ) (w : Reads) (p : Plan) (input_before input_now : Told) (before now : Outs) (result : Result ℕ Refusal) → length made ≤ max_file
    → ShowsEnd (with_read root made w) p input_before input_now before now result
    → ShowsEnd w (over (λ path. bytes_eq path (database_path false root)) made p) input_before input_now before now result
