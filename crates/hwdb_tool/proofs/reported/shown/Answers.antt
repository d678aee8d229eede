use Rattle.std.proofs.Common.{List, refl, subst, ℕ}
use Rattle.hwdb_plan.specs.Asking.{asked}
use Rattle.hwdb_plan.specs.Plans.{Follows}
use Rattle.hwdb_plan.specs.Report.{found_answer}
use Rattle.hwdb_tool.specs.Reported.{report_of}
use Rattle.hwdb_tool.specs.Views.{end_of}
use Rattle.hwdb_tool.proofs.ReportPlanLemmas.{none_follows, one_follows}
use Rattle.hwdb_tool.proofs.reported.shown.Goals as goal

pub returns-in_err-place-clause-follows : goal.returns-in_err-place-clause-follows
returns-in_err-place-clause-follows g c = λ tells.
    let a = c.args.question in
    none_follows end_of (g.D.System.reads c.args.system.now) (report_of a.root.now c.args.report.now) a.form c.args.given.now c.in_err-place.field-0.0 c.from_residual.result refl c.in_err-place.ensures.refused
    c.from_residual.ensures.1

pub returns-clause-follows : goal.returns-clause-follows
returns-clause-follows g c = λ tells.
    let a = c.args.question in
    let w = g.D.System.reads c.args.system.now in
    let r = report_of a.root.now c.args.report.now in
    one_follows end_of w r a.form c.args.given.now c.in_ok-place.place.items c.answered.result c.in_ok-place.ensures.found
    (subst (λ (p : List ℕ). Follows end_of w (asked a.root.now (found_answer r a.form p)) c.answered.result) c.deref.ensures.value (c.answered.ensures.follows tells))
