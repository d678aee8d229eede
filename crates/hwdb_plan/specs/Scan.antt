-- The plan of `scan`: it asks nothing of the files. What its bytes are is an argument of a run. Our choice.
use Rattle.std.specs.Prelude.{ℕ, List, Option}
use Rattle.hwdb_spec_commands.specs.ScanAsked.{scanned_path}
use Rattle.hwdb_plan.specs.Plans.{Plan}
use Rattle.hwdb_plan.specs.Plans.End.{Scans}
use Rattle.hwdb_plan.specs.Plans.Plan.{Done}

-- the keys that the events of what a word asks for tell
abbrev pub scan_plan : (root device : List ℕ) (count : Option ℕ) → Plan
scan_plan root device count = Done (Scans (scanned_path root device) count)
