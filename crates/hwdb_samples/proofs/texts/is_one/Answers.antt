use Rattle.hwdb_samples.proofs.TextLemmas.{first_one, no_one, none_there, some_there}
use Rattle.hwdb_samples.proofs.texts.is_one.Goals as goal

pub returns-then-is_empty : goal.returns-then-is_empty
returns-then-is_empty c = no_one c.args.text.now (none_there c.args.text.now c.if-is_empty.ensures)

pub returns : goal.returns
returns c = first_one c.args.text.now (some_there c.args.text.now c.if-is_empty.ensures)
