use Rattle.hwdb_system.proofs.ReadLawLemmas.{errors_have_one_cause, read_is_no_error}
use Rattle.hwdb_system.proofs.read_laws.answers_are_told.Goals as goal

pub returns-clause-read : goal.returns-clause-read
returns-clause-read c = read_is_no_error

pub returns-clause-one : goal.returns-clause-one
returns-clause-one c = errors_have_one_cause
