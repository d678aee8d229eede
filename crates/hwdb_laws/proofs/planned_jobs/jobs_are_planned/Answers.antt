use Rattle.hwdb_laws.proofs.PlannedJobLemmas.{jobs_are_planned, none_have_both}
use Rattle.hwdb_laws.proofs.planned_jobs.jobs_are_planned.Goals as goal

pub returns : goal.returns
returns c = record { each = jobs_are_planned; one = none_have_both }
