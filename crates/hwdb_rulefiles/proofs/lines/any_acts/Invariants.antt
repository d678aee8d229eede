use Rattle.std.proofs.Common.{◌≡◌, map, drop}
use Rattle.hwdb_rulefiles.specs.RuleLines.{any_acts}
use Rattle.hwdb_rulefiles.specs.TokenViews.{token_of}
use Rattle.hwdb_rulefiles.proofs.lines.any_acts.Given as goal

abbrev pub invariant-loop-token : goal.invariant-loop-token
invariant-loop-token l = any_acts (map token_of (drop l.token-index l.tokens)) ≡ any_acts (map token_of l.tokens)
