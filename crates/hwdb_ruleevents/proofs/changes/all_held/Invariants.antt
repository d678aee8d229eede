use Rattle.std.proofs.Common.{◌≡◌, ◌++◌, map, drop}
use Rattle.hwdb_ruleevents.specs.ChangeViews.{change_of, held_of}
use Rattle.hwdb_ruleevents.proofs.changes.all_held.Given as goal

abbrev pub invariant-loop-change : goal.invariant-loop-change
invariant-loop-change l = map held_of l.all.items ++ map change_of (drop l.change-index l.changes) ≡ map change_of l.changes
