use Rattle.std.proofs.Common.{Some, ap, sym}
use Rattle.hwdb_plan.specs.Ended.{outs}
use Rattle.hwdb_spec_commands.specs.Runs.{Told, told_by}
use Rattle.hwdb_spec_commands.specs.SysfsAnswers.{sight_by}
use Rattle.hwdb_tool.proofs.AdvisingLemmas.{kept_error, kept_follows, kept_refused}
use Rattle.hwdb_tool.proofs.advising.kept_answer.Goals as goal
use Rattle.hwdb_tool.specs.declared.kept.Kept.{Kept}

-- what a sink in memory tells
told : Kept → Told
told k = told_by (λ (s : Kept). Some s.bytes.items) (λ (s : Kept). s.failed) k

pub returns-in-Ok-clause-follows : goal.returns-in-Ok-clause-follows
unfolding told
returns-in-Ok-clause-follows g c = λ tells words asked.
    let I = told_by g.I.Source.left g.I.Source.failures in
    kept_follows (g.D.System.reads c.args.system.now) (sight_by g.D.DeviceFiles.answers c.args.system.now) (I c.args.input.now) (I c.run_either.new.input) words c.args.job.now asked c.requires.whole
    (told c.new-err.result) (told c.new-out.result) (told c.run_either.new.err) (told c.run_either.new.out) c.with_error.result c.in-Ok.status
    (ap Some c.new-err.ensures.empty) (ap Some c.new-out.ensures.empty) (ap Some (sym c.with_error.ensures.err)) (ap Some (sym c.with_error.ensures.out)) c.with_error.ensures.status
    (c.in-Ok.ensures.follows tells words asked)

pub returns-in-Err-clause-follows : goal.returns-in-Err-clause-follows
unfolding told
returns-in-Err-clause-follows g c = λ tells words asked.
    let I = told_by g.I.Source.left g.I.Source.failures in
    kept_refused (g.D.System.reads c.args.system.now) (sight_by g.D.DeviceFiles.answers c.args.system.now) (I c.args.input.now) (I c.run_either.new.input) words c.args.job.now asked c.requires.whole
    (outs (told c.new-err.result) (told c.new-out.result)) (outs (told c.run_either.new.err) (told c.run_either.new.out)) c.in-Err.refusal c.unkept.result
    (c.new-out.ensures.failed, c.new-err.ensures.failed)
    (kept_error c.in-Err.refusal c.unkept.result (outs (told c.run_either.new.err) (told c.run_either.new.out)) c.unkept.ensures) (c.in-Err.ensures.follows tells words asked)
