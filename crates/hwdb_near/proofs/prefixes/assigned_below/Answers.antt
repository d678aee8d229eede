use Rattle.hwdb_near.proofs.FromLemmas.{gathered_below}
use Rattle.hwdb_near.proofs.prefixes.assigned_below.Goals as goal

pub returns-in_ok-assignments_from-in-Some : goal.returns-in_ok-assignments_from-in-Some
returns-in_ok-assignments_from-in-Some c =
    gathered_below c.args.db.now c.args.prefix.now c.in-Some.field-0-1.now c.in-Some.first.now _ (c.members_are_the_map.ensures c.args.db.now c.root.ensures.tree) c.in-Some.ensures.cases.0
    c.in_ok-assignments_from-in-Some.ensures.list
