use Rattle.hwdb_tool.proofs.CrashLemmas.{crashed, crashed_of_all, faults_leave}
use Rattle.hwdb_tool.proofs.crash.crash_then_query.Goals as goal

pub returns-clause-crash : goal.returns-clause-crash
returns-clause-crash g c = crashed c.compiled_answers_are_last.ensures.all c.last_assignments_are_last.ensures.are (g.D.System.may_fail c.args.old.now) (g.D.Store.may_leave c.args.old.now)

pub returns-clause-run : goal.returns-clause-run
returns-clause-run g c = λ words job asked etc leaves after booted.
    crashed c.compiled_answers_are_last.ensures.all c.last_assignments_are_last.ensures.are (g.D.System.may_fail c.args.old.now) (g.D.Store.may_leave c.args.old.now) words job asked etc (g.D.Store.seen c.args.old.now) after (λ p. leaves.each p (after p) (booted p))

pub returns-clause-faults : goal.returns-clause-faults
returns-clause-faults g c = faults_leave (g.D.System.may_fail c.args.old.now) (g.D.Store.may_leave c.args.old.now)

pub returns-clause-of_all : goal.returns-clause-of_all
returns-clause-of_all g c = crashed_of_all c.compiled_answers_are_last.ensures.all c.last_assignments_are_last.ensures.are (g.D.System.may_fail c.args.old.now) (g.D.Store.may_leave c.args.old.now)
