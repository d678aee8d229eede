use Rattle.std.proofs.Common.{◌≡◌, ◌++◌, drop, map}
use Rattle.hwdb_rulefiles.specs.TokenViews.{token_of}
use Rattle.hwdb_rulerun.specs.CauseViews.{token_in}
use Rattle.hwdb_ruleevents.specs.Reasons
use Rattle.hwdb_ruleevents.proofs.reasons.run_first.Given as goal

abbrev pub invariant-loop-token : goal.invariant-loop-token
invariant-loop-token l =
    map token_in l.found.items ++ Reasons.run_first (map token_of (drop l.token-index l.tokens)) ≡ Reasons.run_first (map token_of l.tokens)
