use Rattle.hwdb_spec.specs.Patterns.{tokens}
use Rattle.hwdb_forms.proofs.PlainLemmas.{nothing_ends, star_ends}
use Rattle.hwdb_forms.proofs.plain.ends.Goals as goal

pub returns-then-is_empty : goal.returns-then-is_empty
returns-then-is_empty c = λ e. nothing_ends c.args.text.now c.if-is_empty.ensures

pub returns : goal.returns
returns c = λ e. star_ends (tokens c.args.text.now) (c.is_lone_star.ensures e)
