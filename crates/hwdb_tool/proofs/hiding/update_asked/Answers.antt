use Rattle.std.proofs.Common.{subst}
use Rattle.hwdb_plan.specs.Ended.{ShowsEnd, outs}
use Rattle.hwdb_plan.specs.Plans.{Plan}
use Rattle.hwdb_spec_commands.specs.Jobs.{IsTask}
use Rattle.hwdb_spec_commands.specs.Runs.{files_by, told_by}
use Rattle.hwdb_spec_commands.specs.SysfsAnswers.{sight_by}
use Rattle.hwdb_spec_program.specs.Program.{root_of}
use Rattle.hwdb_tool.proofs.ProgramPlanLemmas.{of_words}
use Rattle.hwdb_tool.proofs.StatusWords.{update_unplanned}
use Rattle.hwdb_tool.proofs.UpdatingLemmas.{task_crash, task_moment, task_updates}
use Rattle.hwdb_tool.proofs.hiding.update_asked.Goals as goal

pub returns-clause-follows : goal.returns-clause-follows
returns-clause-follows g c = λ tells words asked.
    let w = g.D.System.reads c.args.system.now in
    let sight = sight_by g.D.DeviceFiles.answers c.args.system.now in
    let input = told_by g.I.Source.left g.I.Source.failures c.args._input.now in
    let out = told_by g.O.Sink.taken g.O.Sink.failures c.args._out.now in
    let E = told_by g.E.Sink.taken g.E.Sink.failures in
    let Is : Plan → Type 0 = λ p. ShowsEnd w p input input (outs (E c.args.err.now) out) (outs (E c.update_telling.new.err) out) c.update_telling.result in
    of_words sight input input Is words c.args.job.now asked
    (λ word rows is. update_unplanned sight input input Is (root_of c.args.job.now) c.args.job.now.strict word rows c.args.args.now (subst (λ t. IsTask word rows t) c.requires is))

pub returns-clause-updates : goal.returns-clause-updates
returns-clause-updates g c = λ tells.
    let F = files_by g.D.Store.seen g.D.System.may_fail g.D.Store.may_leave g.D.Store.failures in
    let E = told_by g.E.Sink.taken g.E.Sink.failures in
    task_updates (g.D.System.reads c.args.system.now) (F c.args.system.now) (F c.update_telling.new.system) (E c.args.err.now) (E c.update_telling.new.err) c.update_telling.result
    c.args.job.now c.root_of.result.now c.args.args.now c.root_of.ensures c.requires (c.update_telling.ensures.follows tells)

pub returns-clause-any_crash : goal.returns-clause-any_crash
returns-clause-any_crash g c = λ tells.
    let before = c.args.system.now in
    task_crash g.D.Store.moment g.D.Store.left_since before c.update_telling.new.system (g.D.Store.seen before) (g.D.Store.may_leave before)
    c.args.job.now c.root_of.result.now c.args.args.now c.root_of.ensures c.requires (g.D.System.reads before) (c.update_telling.ensures.any_crash tells)

pub returns-clause-any_moment : goal.returns-clause-any_moment
returns-clause-any_moment g c = λ tells.
    let before = c.args.system.now in
    task_moment g.D.Store.moment g.D.Store.left_since before c.update_telling.new.system (g.D.Store.seen before) (g.D.Store.may_leave before)
    c.args.job.now c.root_of.result.now c.args.args.now c.root_of.ensures c.requires (g.D.System.may_fail before) (c.update_telling.ensures.any_moment tells)
