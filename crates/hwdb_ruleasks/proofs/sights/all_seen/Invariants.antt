use Rattle.std.proofs.Common.{◌≡◌, ◌++◌, map, drop}
use Rattle.hwdb_rulerun.specs.Views.{seen_of}
use Rattle.hwdb_ruleasks.specs.SightViews.{looked_of}
use Rattle.hwdb_ruleasks.proofs.sights.all_seen.Given as goal

abbrev pub invariant-loop-one : goal.invariant-loop-one
invariant-loop-one l =
    map seen_of l.all.items ++ map looked_of (drop l.one-index l.looked) ≡ map looked_of l.looked
