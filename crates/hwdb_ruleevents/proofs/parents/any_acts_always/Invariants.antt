use Rattle.std.proofs.Common.{◌≡◌, map, drop}
use Rattle.std.specs.List.{list_any}
use Rattle.hwdb_rulefiles.specs.TokenViews.{token_of}
use Rattle.hwdb_ruleevents.specs.Parents.{acts_always}
use Rattle.hwdb_ruleevents.proofs.parents.any_acts_always.Given as goal

abbrev pub invariant-loop-token : goal.invariant-loop-token
invariant-loop-token l =
    list_any (λ t. acts_always t.kind) (map token_of (drop l.token-index l.tokens)) ≡ list_any (λ t. acts_always t.kind) (map token_of l.tokens)
