use Rattle.std.proofs.Common.{◌∙◌, sym}
use Rattle.hwdb_spec.specs.Lines.{is_match}
use Rattle.hwdb_check.specs.Internal.{line_of}
use Rattle.hwdb_check.proofs.BracketLemmas.{no_empty_range, no_match_line, no_open_bracket}
use Rattle.hwdb_check.proofs.line_warnings.has_odd_bracket.Goals as goal

pub returns-then-not-is_match-clause-open : goal.returns-then-not-is_match-clause-open
returns-then-not-is_match-clause-open c = λ e. no_match_line (is_match (line_of 0 c.args.clean.now)) _ (sym c.is_match.ensures ∙ c.if-not-is_match.true)

pub returns-then-not-is_match-clause-range : goal.returns-then-not-is_match-clause-range
returns-then-not-is_match-clause-range c = λ e. no_match_line (is_match (line_of 0 c.args.clean.now)) _ (sym c.is_match.ensures ∙ c.if-not-is_match.true)

pub returns-then-not-holds_bracket-clause-open : goal.returns-then-not-holds_bracket-clause-open
returns-then-not-holds_bracket-clause-open c = λ e.
    no_open_bracket (is_match (line_of 0 c.args.clean.now)) c.args.clean.now (sym c.holds_bracket.ensures ∙ c.if-not-holds_bracket.true)

pub returns-then-not-holds_bracket-clause-range : goal.returns-then-not-holds_bracket-clause-range
returns-then-not-holds_bracket-clause-range c = λ e.
    no_empty_range (is_match (line_of 0 c.args.clean.now)) c.args.clean.now (sym c.holds_bracket.ensures ∙ c.if-not-holds_bracket.true)

pub returns-clause-open : goal.returns-clause-open
returns-clause-open c = λ e. sym c.has_open_bracket.ensures ∙ c.if-has_open_bracket.false

pub returns-clause-range : goal.returns-clause-range
returns-clause-range c = λ e. sym c.has_empty_range.ensures ∙ e
