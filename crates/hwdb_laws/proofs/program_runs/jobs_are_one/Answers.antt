use Rattle.hwdb_laws.proofs.ProgramRunLemmas.{done_job_is_no_error, jobs_are_one}
use Rattle.hwdb_laws.proofs.program_runs.jobs_are_one.Goals as goal

pub returns : goal.returns
returns c = record {
  one = jobs_are_one c.done_is_one.ensures c.over_is_over.ensures c.over_is_no_more.ensures;
  done = done_job_is_no_error c.done_is_one.ensures c.over_is_over.ensures c.over_is_no_more.ensures;
}
