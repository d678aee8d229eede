use Rattle.hwdb_reader.proofs.FaultLemmas.{one_of_header, right_before}
use Rattle.hwdb_reader.proofs.laws.law_header_faults.Goals as goal

pub returns-clause-one : goal.returns-clause-one
returns-clause-one c = one_of_header

pub returns-clause-order : goal.returns-clause-order
returns-clause-order c = right_before
