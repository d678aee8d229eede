-- What is at a path that words give, as the front of a plan. `-` stands for standard input: that is from POSIX, Utility Syntax Guidelines,
-- 13. What it is told is an argument. The rest is our choice.
use Rattle.std.specs.Prelude.{ℕ, List, None, Option, Some, Result, codes, if◌then◌else◌}
use Rattle.hwdb_spec_commands.specs.Given.{is_dash}
use Rattle.hwdb_spec_commands.specs.declared.unread.Unread.{Unread}
use Rattle.hwdb_plan.specs.Asking.{asked, if_read}
use Rattle.hwdb_plan.specs.Plans.{Next, Plan}
use Rattle.hwdb_plan.specs.Plans.Plan.{Input}

-- what is at a path; what standard input is told, if it is `-`
abbrev pub given_at : (told : Result (List ℕ) Unread) (path : List ℕ) → Next → Plan
given_at told path next = if is_dash path then if_read (codes "standard input") next told else Input path (if_read path next)

-- the same of the path that words give, or if they give none the database that is asked
abbrev pub given_or_asked : (told : Result (List ℕ) Unread) (given : Option (List ℕ)) (root : List ℕ) → Next → Plan
given_or_asked told None root next = asked root next
given_or_asked told (Some path) root next = given_at told path next
