use Rattle.std.proofs.Common.{◌≡◌, ◌++◌, map, drop}
use Rattle.hwdb_rulefiles.specs.TokenViews.{token_of}
use Rattle.hwdb_rulerun.specs.Asking
use Rattle.hwdb_rulerun.specs.AskedViews.{asked_of}
use Rattle.hwdb_rulerun.proofs.asking.told_runs.Given as goal

abbrev pub invariant-loop-token : goal.invariant-loop-token
invariant-loop-token l =
    map asked_of l.all.items ++ Asking.told_runs l.sure (map token_of (drop l.token-index l.tokens)) ≡ Asking.told_runs l.certain (map token_of l.tokens)
