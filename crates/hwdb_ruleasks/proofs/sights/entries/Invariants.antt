use Rattle.std.proofs.Common.{◌≡◌, ◌++◌, map, drop}
use Rattle.hwdb_rulerun.specs.Views.{entry_view}
use Rattle.hwdb_sysfs.specs.Views.{ancestor_of}
use Rattle.hwdb_spec_rules.specs.RuleSights.{entry}
use Rattle.hwdb_ruleasks.specs.Views.{own_text}
use Rattle.hwdb_ruleasks.proofs.sights.entries.Given as goal

abbrev pub invariant-loop-name : goal.invariant-loop-name
invariant-loop-name l =
    map entry_view l.all.items ++ map (entry (ancestor_of l.ancestor)) (map own_text (drop l.name-index l.names))
    ≡ map (entry (ancestor_of l.ancestor)) (map own_text l.names)
