use Rattle.std.proofs.Common.{◌≡◌, map, drop}
use Rattle.hwdb_rulefiles.specs.TokenViews.{token_of}
use Rattle.hwdb_rulerun.specs.Conditions
use Rattle.hwdb_rulerun.proofs.conditions.has_parents.Given as goal

abbrev pub invariant-loop-token : goal.invariant-loop-token
invariant-loop-token l = Conditions.has_parents (map token_of (drop l.token-index l.tokens)) ≡ Conditions.has_parents (map token_of l.tokens)
