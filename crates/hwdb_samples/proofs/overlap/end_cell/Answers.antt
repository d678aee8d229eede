use Rattle.hwdb_spec.specs.Patterns.{token_at}
use Rattle.hwdb_samples.proofs.OverlapLemmas.{star_end, one_end}
use Rattle.hwdb_samples.proofs.overlap.end_cell.Goals as goal

pub returns-then-begins_star : goal.returns-then-begins_star
returns-then-begins_star c = λ qs h. star_end (token_at c.args.over.now) qs _ c.if-begins_star.ensures h

pub returns : goal.returns
returns c = λ qs h. one_end (token_at c.args.over.now) qs c.if-begins_star.ensures
