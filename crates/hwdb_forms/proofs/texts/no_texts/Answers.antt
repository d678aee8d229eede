use Rattle.std.proofs.Common.{arith, ◌∙◌}
use Rattle.hwdb_forms.proofs.TextLemmas.{none_all}
use Rattle.hwdb_forms.specs.Internal.{views}
use Rattle.hwdb_forms.proofs.ViewLemmas.{views_length}
use Rattle.hwdb_forms.proofs.texts.no_texts.Goals as goal

pub returns-clause-row : goal.returns-clause-row
returns-clause-row c = c.loop-at.invariant.row ∙ none_all (views c.args.tokens.now) c.loop-at.at (omega (arith, views_length c.args.tokens.now))
