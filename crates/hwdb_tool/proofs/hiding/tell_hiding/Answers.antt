use Rattle.std.proofs.Common.{[], sym, subst}
use Rattle.hwdb_plan.specs.Plans.{Ends}
use Rattle.hwdb_plan.specs.Plans.End.{Answers}
use Rattle.hwdb_spec_commands.specs.Runs.{told_by}
use Rattle.hwdb_spec_program.specs.HidingPlan.{hiding_plan}
use Rattle.hwdb_tool.proofs.HidingPlanLemmas.{no_text, said_only}
use Rattle.hwdb_tool.proofs.hiding.tell_hiding.Goals as goal

pub returns-in_err-text-clause-says : goal.returns-in_err-text-clause-says
returns-in_err-text-clause-says g c = λ tells.
    no_text (g.D.System.reads c.args.system.now) (hiding_plan c.args.asked.usr c.args.asked.verbose c.args.asked.root.now) (told_by g.E.Sink.taken g.E.Sink.failures c.args.err.now) c.from_residual.result c.from_residual.ensures.1

pub returns-clause-says : goal.returns-clause-says
returns-clause-says g c = λ tells.
    let w = g.D.System.reads c.args.system.now in
    let plan = hiding_plan c.args.asked.usr c.args.asked.verbose c.args.asked.root.now in
    let T = told_by g.E.Sink.taken g.E.Sink.failures in
    said_only w plan c.deref.result.now (T c.args.err.now) (T c.say.new.err) c.say.result
    (subst (λ t. Ends w plan (Answers 0 t [])) (sym c.deref.ensures.value) (c.in_ok-text.ensures.follows tells)) c.say.ensures.took c.say.ensures.refused
