use Rattle.std.proofs.Common.{◌≡◌, drop, map}
use Rattle.hwdb_rulefiles.specs.TokenViews.{token_of}
use Rattle.hwdb_ruleevents.specs.Reasons
use Rattle.hwdb_ruleevents.proofs.reasons.has_lookup.Given as goal

abbrev pub invariant-loop-token : goal.invariant-loop-token
invariant-loop-token l = Reasons.has_lookup (map token_of (drop l.token-index l.tokens)) ≡ Reasons.has_lookup (map token_of l.tokens)
