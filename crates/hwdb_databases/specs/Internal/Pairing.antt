-- What is left of two lists that are gone through side by side.
use Rattle.std.specs.Prelude.{List, ℕ, map, length, drop, ◌+◌}
use Rattle.hwdb_spec_commands.specs.Differences.{Change}
use Rattle.hwdb_databases.specs.Views.{assignment_of}
use Rattle.hwdb_databases.specs.Internal.Merging.{merged}
use Rattle.hwdb_query.specs.declared.answer.StoredAssignment.{StoredAssignment}
use Rattle.hwdb_databases.specs.declared.pairs.Pairs.{Pairs}

-- the changes from one list to another
abbrev pub told : List StoredAssignment → List StoredAssignment → List Change
told old new = merged (map assignment_of old) (map assignment_of new)

-- the changes that are left
abbrev pub to_tell : Pairs → List Change
to_tell p = told (drop p.old_taken p.before.now) (drop p.new_taken p.after.now)

-- how many assignments are left
abbrev pub size : Pairs → ℕ
size p = length (drop p.old_taken p.before.now) + length (drop p.new_taken p.after.now)
