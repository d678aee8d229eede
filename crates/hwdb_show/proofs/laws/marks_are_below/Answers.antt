use Rattle.hwdb_show.proofs.WindowLemmas.{at_end, below_byte}
use Rattle.hwdb_show.proofs.laws.marks_are_below.Goals as goal

pub returns-clause-byte : goal.returns-clause-byte
returns-clause-byte c = below_byte

pub returns-clause-end : goal.returns-clause-end
returns-clause-end c = at_end
