-- The findings of a baseline of `check`, as the front of a plan. Our choice.
use Rattle.std.specs.Prelude.{ℕ, List, [], None, Option, Some, Result, Ok, Err}
use Rattle.hwdb_spec_commands.specs.Baselines.{marks_in, wrong_text}
use Rattle.hwdb_spec_commands.specs.Told.Stop.{Says}
use Rattle.hwdb_plan.specs.Asking.{if_read}
use Rattle.hwdb_plan.specs.Plans.{Plan}
use Rattle.hwdb_plan.specs.Plans.End.{Stops}
use Rattle.hwdb_plan.specs.Plans.Plan.{Done, Input}

-- what follows a baseline, unless a line of it has no finding
abbrev pub if_marked : (path : List ℕ) → Result (List (List ℕ)) ℕ → ((known : List (List ℕ)) → Plan) → Plan
if_marked path (Ok known) next = next known
if_marked path (Err number) next = Done (Stops (Says (wrong_text path number)))

-- the same, if words give the path of one; it is read before the files
abbrev pub over_baseline : (path : Option (List ℕ)) → ((known : List (List ℕ)) → Plan) → Plan
over_baseline None next = next []
over_baseline (Some path) next = Input path (if_read path (λ at bytes. if_marked at (marks_in bytes) next))
