use Rattle.hwdb_plan.specs.Ended.{outs}
use Rattle.hwdb_spec_commands.specs.Runs.{told_by}
use Rattle.hwdb_spec_commands.specs.SysfsAnswers.{sight_by}
use Rattle.hwdb_tool.proofs.AdvisingLemmas.{answered_shown}
use Rattle.hwdb_tool.proofs.advising.run_advised.Goals as goal

pub returns-clause-follows : goal.returns-clause-follows
returns-clause-follows g c = λ tells words asked.
    let I = told_by g.I.Source.left g.I.Source.failures in
    let O = told_by g.O.Sink.taken g.O.Sink.failures in
    let E = told_by g.E.Sink.taken g.E.Sink.failures in
    answered_shown (g.D.System.reads c.args.system.now) (sight_by g.D.DeviceFiles.answers c.args.system.now) (I c.args.input.now) (I c.advised_answer-answer.new.input) words
    (outs (E c.args.err.now) (O c.args.out.now)) (outs (E c.printed.new.err) (O c.printed.new.out)) c.printed.result c.advised_answer-answer.result c.printed.ensures.prints
    (c.advised_answer-answer.ensures.follows tells words asked)
