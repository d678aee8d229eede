use Rattle.std.proofs.Common.{sym, ap, ◌∙◌}
use Rattle.hwdb_spec.specs.Lines.{lines}
use Rattle.hwdb_spec_commands.specs.Reports.{text_of_line}
use Rattle.hwdb_check.proofs.LineLemmas.{no_line_0}
use Rattle.hwdb_check.proofs.line_texts.find_line.Goals as goal

pub returns-then-number-eq0-clause-text : goal.returns-then-number-eq0-clause-text
returns-then-number-eq0-clause-text c = sym (ap (text_of_line (lines c.args.bytes.now)) c.if-number-eq0.true ∙ no_line_0 c.args.bytes.now)
