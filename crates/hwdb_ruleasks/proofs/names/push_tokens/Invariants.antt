use Rattle.std.proofs.Common.{◌≡◌, ◌++◌, map, drop}
use Rattle.std.specs.Prelude.{flat_map}
use Rattle.hwdb_rulefiles.specs.TokenViews.{token_of}
use Rattle.hwdb_spec_rules.specs.RuleNames.{token_names}
use Rattle.hwdb_ruleasks.specs.Views.{own_text}
use Rattle.hwdb_ruleasks.proofs.names.push_tokens.Given as goal

abbrev pub invariant-loop-token : goal.invariant-loop-token
invariant-loop-token l =
    map own_text l.names.items ++ flat_map token_names (map token_of (drop l.token-index l.tokens))
    ≡ map own_text l.initial.names.items ++ flat_map token_names (map token_of l.tokens)
