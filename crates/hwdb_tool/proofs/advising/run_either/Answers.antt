use Rattle.std.proofs.Common.{sym, ◌∙◌}
use Rattle.hwdb_plan.specs.Ended.{outs}
use Rattle.hwdb_spec_commands.specs.Runs.{told_by}
use Rattle.hwdb_spec_commands.specs.SysfsAnswers.{sight_by}
use Rattle.hwdb_tool.proofs.TextProgramLemmas.{plainly_planned}
use Rattle.hwdb_tool.proofs.advising.run_either.Goals as goal

pub returns-clause-follows : goal.returns-clause-follows
returns-clause-follows g c = λ tells words asked.
    let O = told_by g.O.Sink.taken g.O.Sink.failures in
    let E = told_by g.E.Sink.taken g.E.Sink.failures in
    let I = told_by g.I.Source.left g.I.Source.failures in
    let before = outs (E c.args.err.now) (O c.args.out.now) in
    let now = outs (E c.run.new.err) (O c.run.new.out) in
    plainly_planned (g.D.System.reads c.args.system.now) (sight_by g.D.DeviceFiles.answers c.args.system.now) (I c.args.input.now) (I c.run.new.input) before words c.args.job.now asked now c.run.result
    (sym c.asks_text.ensures ∙ c.if-asks_text.false) (c.run.ensures.follows tells words asked)
