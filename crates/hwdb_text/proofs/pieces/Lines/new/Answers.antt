use Rattle.hwdb_text.proofs.pieces.Lines.new.Goals as goal
use Rattle.hwdb_text.specs.Lemmas.Pieces.{few_pieces}

pub returns-clause-few : goal.returns-clause-few
returns-clause-few c = few_pieces 10 c.args.text.now
