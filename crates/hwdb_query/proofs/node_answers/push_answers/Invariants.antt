use Rattle.std.proofs.Common.{◌≡◌, ◌++◌, map, drop}
use Rattle.hwdb_spec.specs.Tree.{values_of}
use Rattle.hwdb_reader.specs.Views.{entered_tree}
use Rattle.hwdb_query.specs.Views.{assignment_of_answer}
use Rattle.hwdb_query.specs.Internal.Members.{own_members}
use Rattle.hwdb_query.proofs.node_answers.push_answers.Given as goal

abbrev pub invariant-loop-i : goal.invariant-loop-i
invariant-loop-i l =
    map assignment_of_answer l.into.items ++ own_members l.pattern (drop l.i (values_of (entered_tree l.inside)))
    ≡ map assignment_of_answer l.fn.into.items ++ own_members l.pattern (values_of (entered_tree l.inside))
