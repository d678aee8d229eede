-- The plan of `list`. Our choice.
use Rattle.std.specs.Prelude.{ℕ, Bool, List, None, Option, Some, map}
use Rattle.hwdb_spec.specs.Assignment.{Position}
use Rattle.hwdb_spec_commands.specs.Listings.{line_of}
use Rattle.hwdb_spec.specs.Texts.{within_limit}
use Rattle.hwdb_spec.specs.Tree.{Tree, answers_after}
use Rattle.hwdb_spec_commands.specs.Told.Stop.{Plain}
use Rattle.hwdb_spec.specs.declared.errors.ToolError.TheVariants.{BadPosition}
use Rattle.hwdb_plan.specs.Asking.{asked}
use Rattle.hwdb_plan.specs.Dump.{bad_database}
use Rattle.hwdb_plan.specs.Plans.{Next, Plan}
use Rattle.hwdb_plan.specs.Plans.End.{Lines, Stops}
use Rattle.hwdb_plan.specs.Plans.Plan.{Decode, Done, Spell}

-- what follows the position that a text spells; that it spells none is an error
abbrev pub if_spelled : (Option Position → Plan) → Option Position → Plan
if_spelled next None = Done (Stops (Plain BadPosition))
if_spelled next (Some p) = next (Some p)

-- what follows the position after which the hits begin, if words give one
abbrev pub from : (after : Option (List ℕ)) → (Option Position → Plan) → Plan
from None next = next None
from (Some text) next = Spell text (if_spelled next)

-- the lines of the hits after a position
abbrev pub hit_lines : (json : Bool) (device : List ℕ) (limit : Option ℕ) → Option Position → Tree → List (List ℕ)
hit_lines json device limit after t = map (line_of json) (within_limit limit (answers_after device after t))

-- those that the database has for the device
abbrev pub listed : (json : Bool) (device : List ℕ) (after : Option (List ℕ)) (limit : Option ℕ) → Next
listed json device after limit path bytes =
    from after (λ p. Decode bytes (bad_database path) (λ t. Done (Lines (hit_lines json device limit p t))))

-- that of the database that is asked
abbrev pub list_plan : (root : List ℕ) (json : Bool) (device : List ℕ) (after : Option (List ℕ)) (limit : Option ℕ) → Plan
list_plan root json device after limit = asked root (listed json device after limit)
