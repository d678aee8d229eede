use Rattle.hwdb_laws.proofs.PlannedJobLemmas.{crashes_keep, runs_keep}
use Rattle.hwdb_spec_commands.specs.Runs.{files_by}
use Rattle.hwdb_laws.proofs.planned_updates.planned_runs_keep_files.Goals as goal

pub returns : goal.returns
returns g c =
    let F = files_by g.D.Store.seen g.D.System.may_fail g.D.Store.may_leave g.D.Store.failures in
    record { kept = runs_keep (F c.args.before.now) (F c.args.now.now); crash = crashes_keep (g.D.Store.may_leave c.args.before.now) }
