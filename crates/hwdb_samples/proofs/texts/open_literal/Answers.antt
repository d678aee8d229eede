use Rattle.std.proofs.Common.{sym, ◌∙◌}
use Rattle.hwdb_samples.proofs.TextLemmas.{open_none, open_some}
use Rattle.hwdb_samples.proofs.texts.open_literal.Goals as goal

pub returns-in-Some : goal.returns-in-Some
returns-in-Some c = sym (open_some c.args.text.now _ c.requires.some c.requires.first (sym c.bracket_end.ensures ∙ c.in-Some.is))

pub returns-in-None : goal.returns-in-None
returns-in-None c = sym (open_none c.args.text.now c.requires.some c.requires.first (sym c.bracket_end.ensures ∙ c.in-None.is))
