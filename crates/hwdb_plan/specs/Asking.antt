-- The database that a command asks for, as the front of a plan. That the one of /etc is asked before that of /usr/lib is libudev's; the
-- rest is our choice.
use Rattle.std.specs.Prelude.{ℕ, true, false, List, None, Option, Some, Result, Ok, Err}
use Rattle.hwdb_spec_commands.specs.Asked.{database_path}
use Rattle.hwdb_spec_commands.specs.Told.{unread_stop}
use Rattle.hwdb_spec_commands.specs.Told.Stop.{NoDatabase}
use Rattle.hwdb_spec_commands.specs.declared.unread.Unread.{Unread}
use Rattle.hwdb_plan.specs.Plans.{Next, Plan}
use Rattle.hwdb_plan.specs.Plans.End.{Stops}
use Rattle.hwdb_plan.specs.Plans.Plan.{Database, Done, Input}

-- what follows the bytes at a path, or the error if they aren't read
abbrev pub if_read : (path : List ℕ) → Next → Result (List ℕ) Unread → Plan
if_read path next (Ok bytes) = next path bytes
if_read path next (Err w) = Done (Stops (unread_stop path w))

-- the same of a database; if none is there, that follows
abbrev pub if_there : (path : List ℕ) → Next → (none : Plan) → Result (Option (List ℕ)) Unread → Plan
if_there path next none (Ok None) = none
if_there path next none (Ok (Some bytes)) = next path bytes
if_there path next none (Err w) = Done (Stops (unread_stop path w))

-- the database of /etc below the root, or else that of /usr/lib; if neither is there, that is an error
abbrev pub asked : (root : List ℕ) → Next → Plan
asked root next =
    Database (database_path false root) (if_there (database_path false root) next
    (Database (database_path true root) (if_there (database_path true root) next (Done (Stops NoDatabase)))))

-- what is at the path that the words give, or if they give none the database that is asked
abbrev pub named : (given : Option (List ℕ)) (root : List ℕ) → Next → Plan
named None root next = asked root next
named (Some path) root next = Input path (if_read path next)
