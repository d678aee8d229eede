use Rattle.hwdb_text.proofs.OneLineLemmas as line
use Rattle.hwdb_text.proofs.laws.one_value_a_line.Goals as goal

pub returns : goal.returns
returns c = line.one_value_a_line
