use Rattle.hwdb_plan.specs.Ended.{outs}
use Rattle.hwdb_spec_commands.specs.Runs.{told_by}
use Rattle.hwdb_spec_commands.specs.SysfsAnswers.{sight_by}
use Rattle.hwdb_tool.proofs.ProgramPlanLemmas.{printed_shows}
use Rattle.hwdb_tool.proofs.verb.print_answer.Goals as goal

pub returns-clause-follows : goal.returns-clause-follows
returns-clause-follows g c = λ tells.
    let system = c.args.system.now in
    let I = told_by g.I.Source.left g.I.Source.failures in
    let O = told_by g.O.Sink.taken g.O.Sink.failures in
    let E = told_by g.E.Sink.taken g.E.Sink.failures in
    printed_shows (g.D.System.reads system) (sight_by g.D.DeviceFiles.answers system) (I c.args.input.now) (I c.answer-answer.new.input) (outs (E c.args.err.now) (O c.args.out.now))
    (outs (E c.printed.new.err) (O c.printed.new.out)) c.printed.result c.args.job.now c.answer-answer.result (c.answer-answer.ensures.follows tells) c.printed.ensures.prints
