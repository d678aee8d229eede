use Rattle.std.proofs.Common.{◌≡◌, ◌++◌, map, drop}
use Rattle.hwdb_sysfs.specs.Views.{ancestor_of}
use Rattle.hwdb_spec_rules.specs.RuleSights.{seen}
use Rattle.hwdb_ruleasks.specs.SightViews.{looked_of}
use Rattle.hwdb_ruleasks.specs.Views.{own_text}
use Rattle.hwdb_ruleasks.proofs.sights.all_looked.Given as goal

abbrev pub invariant-loop-ancestor : goal.invariant-loop-ancestor
invariant-loop-ancestor l =
    map looked_of l.all.items ++ map (seen (map own_text l.names)) (map ancestor_of (drop l.ancestor-index l.chain))
    ≡ map (seen (map own_text l.names)) (map ancestor_of l.chain)
