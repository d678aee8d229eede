-- What the types of tokens mean.
use Rattle.std.specs.Prelude.{List, ℕ}
use Rattle.hwdb_rulefiles.specs.RuleTokens
use Rattle.hwdb_rulefiles.specs.declared.tokens.Token.{Token}
use Rattle.hwdb_rulefiles.specs.declared.tokens.Verdict.{Verdict}
use Rattle.hwdb_rulefiles.specs.declared.tokens.Verdict.TheVariants as Verdicts

abbrev pub token_of : Token → RuleTokens.Token
token_of t = record { kind = t.kind; attribute = t.attribute.items; operator = t.operator; folds = t.folds; value = t.value.items }

abbrev pub verdict_of : Verdict → RuleTokens.Verdict
verdict_of (Verdicts.Refused kind) = RuleTokens.Refused kind
verdict_of (Verdicts.Ignored kind) = RuleTokens.Ignored kind
verdict_of (Verdicts.Taken t) = RuleTokens.Taken (token_of t)
verdict_of (Verdicts.TakenAsSet t) = RuleTokens.TakenAsSet (token_of t)
verdict_of (Verdicts.Label name) = RuleTokens.Label name.items
verdict_of (Verdicts.Goto name) = RuleTokens.Goto name.items
