use Rattle.std.proofs.Common.{◌≡◌, ◌++◌, map, drop}
use Rattle.hwdb_ruleevents.specs.ChangeViews.{held_of}
use Rattle.hwdb_rulecommands.specs.Views.{text_of}
use Rattle.hwdb_spec_rules.specs.DeviceCommands.{untold}
use Rattle.hwdb_ruleasks.proofs.commands.push_untold.Given as goal

abbrev pub invariant-loop-name : goal.invariant-loop-name
invariant-loop-name l =
    map held_of l.all.items ++ map untold (map text_of (drop l.name-index l.names)) ≡ map held_of l.initial.all.items ++ map untold (map text_of l.names)
