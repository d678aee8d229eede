use Rattle.hwdb_writer.proofs.OneTreeLemmas.{one_written}
use Rattle.hwdb_writer.proofs.laws.law_one_written_form.Goals as goal

pub returns : goal.returns
returns c = one_written
