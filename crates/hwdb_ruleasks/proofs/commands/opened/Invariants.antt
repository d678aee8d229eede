use Rattle.std.proofs.Common.{◌≡◌, ◌++◌, map, drop}
use Rattle.hwdb_ruleevents.specs.Changes.{Open}
use Rattle.hwdb_ruleevents.specs.ChangeViews.{held_of}
use Rattle.hwdb_rulecommands.specs.Views.{text_of}
use Rattle.hwdb_ruleasks.proofs.commands.opened.Given as goal

abbrev pub invariant-loop-start : goal.invariant-loop-start
invariant-loop-start l =
    map held_of l.all.items ++ map Open (map text_of (drop l.start-index l.starts)) ≡ map held_of l.initial.all.items ++ map Open (map text_of l.starts)
