use Rattle.hwdb_databases.proofs.ToldLemmas.{text_says}
use Rattle.hwdb_databases.proofs.laws.dump_says.Goals as goal

pub returns : goal.returns
returns c = text_says
