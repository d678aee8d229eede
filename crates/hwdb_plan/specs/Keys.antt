-- The plan of `keys`: it asks nothing. Our choice.
use Rattle.std.specs.Prelude.{ℕ, Bool, List}
use Rattle.hwdb_spec_commands.specs.KeysAsked.{keys_status, keys_text, keys_told}
use Rattle.hwdb_plan.specs.Plans.{End, Plan}
use Rattle.hwdb_plan.specs.Plans.End.{Answers}
use Rattle.hwdb_plan.specs.Plans.Plan.{Done}

-- keys as they are printed, with the status that this gives; and what is said of words that ask for none
abbrev pub keys_end : (words : List (List ℕ)) (text : List ℕ) → End
keys_end words text = Answers (keys_status text) (keys_told words text) text

-- the keys that words ask for
abbrev pub keys_plan : (json : Bool) (words : List (List ℕ)) → Plan
keys_plan json words = Done (keys_end words (keys_text json words))
