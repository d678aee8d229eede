use Rattle.std.proofs.Common.{◌≡◌, ◌++◌, map, drop, List, []}
use Rattle.hwdb_rulefiles.specs.TokenViews.{token_of}
use Rattle.hwdb_rulerun.specs.Causes
use Rattle.hwdb_rulerun.specs.CauseViews.{token_in}
use Rattle.hwdb_rulerun.specs.Views.{sight_of}
use Rattle.hwdb_rulerun.proofs.causes.own_cause.Given as goal

abbrev pub invariant-loop-token : goal.invariant-loop-token
invariant-loop-token l =
    (map token_in l.found.items ≡ [])
    × (Causes.own_cause l.fails (sight_of l.sight) (map token_of (drop l.token-index l.tokens)) ≡ Causes.own_cause l.fails (sight_of l.sight) (map token_of l.tokens))
