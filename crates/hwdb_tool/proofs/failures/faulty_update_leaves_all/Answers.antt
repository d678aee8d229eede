use Rattle.hwdb_tool.proofs.CrashLemmas.{faults_leave}
use Rattle.hwdb_tool.proofs.FailureLemmas.{one_too_many}
use Rattle.hwdb_tool.specs.Failures.{words_with_one_too_many}
use Rattle.hwdb_tool.proofs.failures.faulty_update_leaves_all.Goals as goal

pub returns : goal.returns
returns g c = faults_leave (g.D.System.may_fail c.args.old.now) (g.D.Store.may_leave c.args.old.now) words_with_one_too_many one_too_many
