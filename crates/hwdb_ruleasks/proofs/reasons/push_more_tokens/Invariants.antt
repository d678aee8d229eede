use Rattle.std.proofs.Common.{◌≡◌, ◌++◌, drop, map}
use Rattle.hwdb_rulerun.specs.CauseViews.{token_in}
use Rattle.hwdb_spec_rules.specs.RuleReasons
use Rattle.hwdb_ruleasks.proofs.reasons.push_more_tokens.Given as goal

abbrev pub invariant-loop-token : goal.invariant-loop-token
invariant-loop-token l =
    l.text.items ++ RuleReasons.more_texts (map RuleReasons.token_text (map token_in (drop l.token-index l.tokens)))
    ≡ l.fn.text.items ++ RuleReasons.more_texts (map RuleReasons.token_text (map token_in l.tokens))
