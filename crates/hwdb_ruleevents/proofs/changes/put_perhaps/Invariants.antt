use Rattle.std.proofs.Common.{◌≡◌, ◌++◌, false, map, drop}
use Rattle.hwdb_ruleevents.specs.Changes.{by_sure}
use Rattle.hwdb_ruleevents.specs.ChangeViews.{held_of}
use Rattle.hwdb_ruleevents.proofs.changes.put_perhaps.Given as goal

abbrev pub invariant-loop-change : goal.invariant-loop-change
invariant-loop-change l =
    map held_of l.changes.items ++ by_sure false (map held_of (drop l.change-index l.new))
    ≡ map held_of l.initial.changes.items ++ by_sure false (map held_of l.new)
