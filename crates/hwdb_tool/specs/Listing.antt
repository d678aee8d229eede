-- What a listing of hits follows.
use Rattle.std.specs.Prelude.{◌≡◌, ℕ, List}
use Rattle.hwdb_answers.specs.Asked.{after_of}
use Rattle.hwdb_answers.specs.declared.listing.ListAsked.{ListAsked}
use Rattle.hwdb_plan.specs.Ended.{whole}
use Rattle.hwdb_plan.specs.List.{list_plan}
use Rattle.hwdb_plan.specs.Plans.{Ends, Plan}
use Rattle.hwdb_plan.specs.Plans.End.{Lines}
use Rattle.hwdb_spec_commands.specs.Told.{Reads}

-- the plan of the hits that are asked for
abbrev pub asked_list_plan : (root : List ℕ) → ListAsked → Plan
asked_list_plan root a = list_plan root a.json a.device.now (after_of a) a.limit

-- the plan ends in lines, and these are the text
abbrev pub EndsInLines : Reads → Plan → (text : List ℕ) → Type 0
EndsInLines w p text = (lines : List (List ℕ)) × Ends w p (Lines lines) × (text ≡ whole lines)
