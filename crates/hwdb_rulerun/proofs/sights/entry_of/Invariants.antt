use Rattle.std.proofs.Common.{◌≡◌, map, drop}
use Rattle.hwdb_rulerun.specs.Sights
use Rattle.hwdb_rulerun.specs.Views.{known_of, entry_view}
use Rattle.hwdb_rulerun.proofs.sights.entry_of.Given as goal

abbrev pub invariant-loop-entry : goal.invariant-loop-entry
invariant-loop-entry l =
    Sights.entry_of l.name (known_of l.otherwise) (map entry_view (drop l.entry-index l.entries))
    ≡ Sights.entry_of l.name (known_of l.otherwise) (map entry_view l.entries)
