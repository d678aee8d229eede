-- What the types of lines mean.
use Rattle.std.specs.Prelude.{List, ℕ, Option, Some, None, map}
use Rattle.hwdb_rulefiles.specs.RuleLines
use Rattle.hwdb_rulefiles.specs.PairViews.{value_view}
use Rattle.hwdb_rulefiles.specs.TokenViews.{token_of}
use Rattle.hwdb_rulefiles.specs.declared.lines.Taking.{Taking}
use Rattle.hwdb_rulefiles.specs.declared.lines.RuleLine.{RuleLine}
use Rattle.hwdb_rulefiles.specs.declared.lines.Outcome.{Outcome}

abbrev pub taking_of : Taking → RuleLines.Taking
taking_of t =
    record { tokens = map token_of t.tokens.items; label = value_view t.label; goto = value_view t.goto; refused = t.refused; findings = t.findings.items }

abbrev pub line_of : RuleLine → RuleLines.RuleLine
line_of l = record { number = l.number; tokens = map token_of l.tokens.items; label = value_view l.label; goto = value_view l.goto }

abbrev pub line_view : Option RuleLine → Option RuleLines.RuleLine
line_view None = None
line_view (Some l) = Some (line_of l)

abbrev pub outcome_of : Outcome → RuleLines.Outcome
outcome_of o = record { number = o.number; line = line_view o.line; findings = o.findings.items }
