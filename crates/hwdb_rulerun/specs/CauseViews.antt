-- What causes mean.
use Rattle.std.specs.Borrow.{Bor}
use Rattle.hwdb_rulefiles.specs.RuleTokens
use Rattle.hwdb_rulefiles.specs.TokenViews.{token_of}
use Rattle.hwdb_rulefiles.specs.declared.tokens.Token.{Token}

abbrev pub token_in : Bor Token → RuleTokens.Token
token_in t = token_of t.now
