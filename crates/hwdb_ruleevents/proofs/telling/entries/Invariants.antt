use Rattle.std.proofs.Common.{◌≡◌, ◌++◌, map, drop}
use Rattle.hwdb_rulefiles.specs.TokenViews.{token_of}
use Rattle.hwdb_rulerun.specs.Views.{entry_view}
use Rattle.hwdb_ruleevents.specs.ChangeViews.{held_of}
use Rattle.hwdb_ruleevents.specs.Telling.{entry_for}
use Rattle.hwdb_ruleevents.proofs.telling.entries.Given as goal

abbrev pub invariant-loop-token : goal.invariant-loop-token
invariant-loop-token l =
    map entry_view l.all.items ++ map (entry_for (map held_of l.changes)) (map token_of (drop l.token-index l.tokens))
    ≡ map (entry_for (map held_of l.changes)) (map token_of l.tokens)
