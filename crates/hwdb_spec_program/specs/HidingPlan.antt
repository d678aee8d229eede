-- The plans of `update` as they follow one another. First comes the line on a database of /etc that hides the new one, as the answer to
-- what is in its place. Our choice.
use Rattle.std.specs.Prelude.{Bool, true, false, ℕ, List, [], None, Option, Some, Result, Ok, Err, if◌then◌else◌}
use Rattle.hwdb_spec_commands.specs.Asked.{database_path}
use Rattle.hwdb_spec_commands.specs.Runs.{Files, Told}
use Rattle.hwdb_spec_commands.specs.Told.{Reads}
use Rattle.hwdb_spec_commands.specs.declared.refusals.Refusal.{Refusal}
use Rattle.hwdb_spec_commands.specs.declared.unread.Unread.{Unread}
use Rattle.hwdb_plan.specs.Plans.{Plan}
use Rattle.hwdb_plan.specs.Plans.End.{Answers}
use Rattle.hwdb_plan.specs.Plans.Plan.{Database, Done}
use Rattle.hwdb_plan.specs.Putting.{SaysThen, SaysThenPuts}
use Rattle.hwdb_plan.specs.Update.{left_out_plan, update_plan}
use Rattle.hwdb_spec_program.specs.Hiding.{hiding_line}

-- something is in a place, also if it can't be read
abbrev pub is_there : Result (Option (List ℕ)) Unread → Bool
is_there (Ok None) = false
is_there (Ok (Some bytes)) = true
is_there (Err w) = true

-- what `update --usr --verbose` says first: the line, if something is in the place of /etc's database
abbrev pub hiding_plan : (usr verbose : Bool) (root : List ℕ) → Plan
hiding_plan false verbose root = Done (Answers 0 [] [])
hiding_plan true false root = Done (Answers 0 [] [])
hiding_plan true true root =
    Database (database_path false root) (λ found. Done (Answers 0 (if is_there found then hiding_line root else []) []))

-- a run of `update` says that line, and then which files are left out, and then it does what the plan of the others ends in
abbrev pub UpdatesTelling : Reads → (root : List ℕ) (usr strict verbose skip : Bool) → (before now : Files) (err_before err_now : Told) → Result ℕ Refusal → Type 0
UpdatesTelling w root usr strict verbose skip before now err_before err_now result =
    (words : List (List ℕ)) × SaysThen w (hiding_plan usr verbose root)
    (λ err_told. SaysThenPuts w (left_out_plan root skip words) (update_plan root usr strict verbose skip words) before now err_told err_now result)
    before now err_before err_now result
