use Rattle.std.proofs.Common.{◌≡◌, ◌++◌, map, drop}
use Rattle.hwdb_query.specs.Views.{explained_values}
use Rattle.hwdb_ruleevents.specs.ChangeViews.{held_of}
use Rattle.hwdb_spec_rules.specs.DeviceCommands.{may_give}
use Rattle.hwdb_ruleasks.proofs.commands.push_gifts.Given as goal

abbrev pub invariant-loop-one : goal.invariant-loop-one
invariant-loop-one l =
    map held_of l.all.items ++ map may_give (explained_values (drop l.one-index l.told)) ≡ map held_of l.initial.all.items ++ map may_give (explained_values l.told)
