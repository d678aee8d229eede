use Rattle.hwdb_laws.proofs.PlannedUpdateLemmas.{planned_update_errors, planned_updates, planned_updates_done}
use Rattle.hwdb_spec_commands.specs.Runs.{files_by}
use Rattle.hwdb_laws.proofs.planned_updates.planned_updates_are_one.Goals as goal

pub returns : goal.returns
returns g c =
    let F = files_by g.D.Store.seen g.D.System.may_fail g.D.Store.may_leave g.D.Store.failures in
    record {
      one = planned_updates c.done_is_one.ensures (F c.args.first.now) (F c.args.first_then.now) (F c.args.second.now) (F c.args.second_then.now);
      done = planned_updates_done c.done_is_one.ensures (F c.args.first.now) (F c.args.first_then.now) (F c.args.second.now) (F c.args.second_then.now);
      error = planned_update_errors c.plans_end_alike.ensures (F c.args.first.now) (F c.args.first_then.now) (F c.args.second.now) (F c.args.second_then.now);
    }
