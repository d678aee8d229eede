use Rattle.std.proofs.Common.{Err, List, refl, subst, sym, ◌∙◌, ℕ}
use Rattle.hwdb_spec_program.specs.DeviceErrors.{asked_names}
use Rattle.hwdb_plan.specs.Plans.{Follows}
use Rattle.hwdb_plan.specs.Report.{found_asked}
use Rattle.hwdb_tool.specs.Reported.{given_in}
use Rattle.hwdb_tool.specs.Views.{end_of}
use Rattle.hwdb_tool.proofs.ReportPlanLemmas.{export_follows, memory_reported, no_export_follows, over}
use Rattle.hwdb_tool.proofs.reported.over_bytes.Goals as goal

pub returns-then-not-is_export-clause-follows : goal.returns-then-not-is_export-clause-follows
returns-then-not-is_export-clause-follows g c = λ tells.
    let a = c.args.question in
    no_export_follows end_of (g.D.System.reads c.args.system.now) asked_names a.root.now a.form a.all (given_in a) c.args.path.now c.args.bytes.now c.no_export.result (Err c.no_export.result)
    (sym c.is_export.ensures ∙ c.if-not-is_export.true) c.no_export.ensures refl

pub returns-in_err-export-clause-follows : goal.returns-in_err-export-clause-follows
returns-in_err-export-clause-follows g c = λ tells.
    let a = c.args.question in
    memory_reported end_of (g.D.System.reads c.args.system.now) asked_names a.root.now a.form a.all (given_in a) c.args.path.now c.args.bytes.now c.from_residual.result c.from_residual.ensures.1

pub returns-clause-follows : goal.returns-clause-follows
returns-clause-follows g c = λ tells.
    let a = c.args.question in
    let w = g.D.System.reads c.args.system.now in
    export_follows end_of w asked_names a.root.now a.form a.all (given_in a) c.args.path.now c.args.bytes.now c.over_report.result (sym c.is_export.ensures ∙ c.if-not-is_export.false)
    (subst (λ (b : List ℕ). Follows end_of w (found_asked (over asked_names a.root.now c.args.path.now b) a.form a.all (given_in a)) c.over_report.result) c.in_ok-export.ensures
    (c.over_report.ensures.follows tells))
