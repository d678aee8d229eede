use Rattle.std.proofs.Common.{List, refl, subst, ℕ}
use Rattle.hwdb_spec_commands.specs.Given.{is_dash}
use Rattle.hwdb_spec_program.specs.DeviceErrors.{asked_names}
use Rattle.hwdb_plan.specs.Plans.{Follows, Next}
use Rattle.hwdb_plan.specs.Report.{report_answer}
use Rattle.hwdb_tool.specs.Reported.{given_in}
use Rattle.hwdb_tool.specs.Views.{end_of}
use Rattle.hwdb_tool.proofs.ReportPlanLemmas.{over_read, over_unread}
use Rattle.hwdb_tool.proofs.reported.over_file.Goals as goal

pub returns-in_err-bytes-clause-follows : goal.returns-in_err-bytes-clause-follows
returns-in_err-bytes-clause-follows g c = λ tells.
    let a = c.args.question in
    let from = c.args.from.now in
    over_unread end_of (g.D.System.reads c.args.system.now) (g.I.Source.left c.args.input.now) (g.I.Source.failures c.args.input.now) (g.I.Source.failures c.read.new.input)
    (report_answer asked_names a.root.now a.form a.all (given_in a)) (is_dash from) from c.in_err-bytes.field-0.0 c.from_residual.result refl (c.in_err-bytes.ensures.told tells) c.from_residual.ensures.1

pub returns-clause-follows : goal.returns-clause-follows
returns-clause-follows g c = λ tells.
    let a = c.args.question in
    let from = c.args.from.now in
    let w = g.D.System.reads c.args.system.now in
    let next : Next = report_answer asked_names a.root.now a.form a.all (given_in a) in
    let bytes = c.in_ok-bytes.bytes.items in
    over_read end_of w (g.I.Source.left c.args.input.now) (g.I.Source.failures c.args.input.now) (g.I.Source.failures c.read.new.input) next (is_dash from) from bytes c.over_bytes.result refl (c.in_ok-bytes.ensures.told tells)
    (subst (λ (p : List ℕ). Follows end_of w (next p bytes) c.over_bytes.result) c.named.ensures
    (subst (λ (b : List ℕ). Follows end_of w (next c.named.result.now b) c.over_bytes.result) c.deref.ensures.value (c.over_bytes.ensures.follows tells)))
