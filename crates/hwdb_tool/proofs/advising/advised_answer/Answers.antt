use Rattle.hwdb_spec_commands.specs.Runs.{told_by}
use Rattle.hwdb_spec_commands.specs.SysfsAnswers.{sight_by}
use Rattle.hwdb_tool.proofs.AdvisingLemmas.{advised_follows, advised_refused, unadvised}
use Rattle.hwdb_tool.proofs.advising.advised_answer.Goals as goal

pub returns-in_err-line-clause-follows : goal.returns-in_err-line-clause-follows
returns-in_err-line-clause-follows g c = λ tells words asked.
    let I = told_by g.I.Source.left g.I.Source.failures in
    unadvised (g.D.System.reads c.args.system.now) (sight_by g.D.DeviceFiles.answers c.args.system.now) (I c.args.input.now) (I c.args.input.now) words c.from_residual.result c.from_residual.ensures.1

pub returns-in_err-answer-clause-follows : goal.returns-in_err-answer-clause-follows
returns-in_err-answer-clause-follows g c = λ tells words asked.
    let I = told_by g.I.Source.left g.I.Source.failures in
    advised_refused (g.D.System.reads c.args.system.now) (sight_by g.D.DeviceFiles.answers c.args.system.now) (I c.args.input.now) (I c.kept_answer.new.input) words c.args.job.now asked
    c.advised_is_said.ensures c.in_ok-line.line.items c.in_ok-line.ensures c.in_err-answer.field-0.0 c.from_residual-in_err-answer.result c.from_residual-in_err-answer.ensures.1
    (c.in_err-answer.ensures.follows tells words asked)

pub returns-clause-follows : goal.returns-clause-follows
returns-clause-follows g c = λ tells words asked.
    let I = told_by g.I.Source.left g.I.Source.failures in
    advised_follows (g.D.System.reads c.args.system.now) (sight_by g.D.DeviceFiles.answers c.args.system.now) (I c.args.input.now) (I c.kept_answer.new.input) words c.args.job.now asked
    c.advised_is_said.ensures c.in_ok-line.line.items c.in_ok-line.ensures c.in_ok-answer.answer c.advised.result c.advised.ensures (c.in_ok-answer.ensures.follows tells words asked)
