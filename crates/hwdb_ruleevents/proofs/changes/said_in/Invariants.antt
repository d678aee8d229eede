use Rattle.std.proofs.Common.{◌≡◌, map, drop}
use Rattle.hwdb_rulefiles.specs.RuleKeys.{or_else}
use Rattle.hwdb_ruleevents.specs.Changes
use Rattle.hwdb_ruleevents.specs.ChangeViews.{held_of, known_view}
use Rattle.hwdb_ruleevents.proofs.changes.said_in.Given as goal

abbrev pub invariant-loop-change : goal.invariant-loop-change
invariant-loop-change l =
    or_else (Changes.said_in (map held_of (drop l.change-index l.changes)) l.name) (known_view l.found) ≡ Changes.said_in (map held_of l.changes) l.name
