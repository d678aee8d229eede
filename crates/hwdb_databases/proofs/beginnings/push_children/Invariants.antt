use Rattle.std.proofs.Common.{◌≡◌, ◌++◌, [], drop, filter, map}
use Rattle.hwdb_reader.specs.Views.{children_of, entered_tree}
use Rattle.hwdb_query.specs.Internal.Members.{members_in}
use Rattle.hwdb_databases.specs.Beginnings.{is_from}
use Rattle.hwdb_databases.specs.Views.{assignment_of}
use Rattle.hwdb_databases.proofs.beginnings.push_children.Given as goal

abbrev pub invariant-loop-i : goal.invariant-loop-i
invariant-loop-i l =
    map assignment_of l.found.items ++ filter (is_from l.first) (members_in [] (drop l.i (children_of (entered_tree l.inside))))
    ≡ map assignment_of l.fn.found.items ++ filter (is_from l.first) (members_in [] (children_of (entered_tree l.inside)))
