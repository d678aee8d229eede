use Rattle.hwdb_laws.proofs.ProgramRunLemmas.{jobs_end_in_one_error}
use Rattle.hwdb_laws.proofs.program_runs.words_end_in_one.Goals as goal

pub returns : goal.returns
returns c = jobs_end_in_one_error c.plans_end_alike.ensures c.over_is_over.ensures c.over_is_no_more.ensures
