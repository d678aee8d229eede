use Rattle.std.proofs.Common.{eqb-true}
use Rattle.hwdb_forms.proofs.PlainLemmas.{star_cut, star_text}
use Rattle.hwdb_forms.proofs.plain.starts_star.Goals as goal

pub returns-clause-star : goal.returns-clause-star
returns-clause-star c = λ e. star_text c.args.text.now c.if-is_empty.ensures (eqb-true _ 42 e)

pub returns-clause-cut : goal.returns-clause-cut
returns-clause-cut c = λ e. star_cut c.args.text.now c.if-is_empty.ensures (eqb-true _ 42 e)
