use Rattle.std.proofs.Common.{Bool, List, Option, ap, false, option_map, subst, sym, ℕ}
use Rattle.hwdb_plan.specs.Plans.{Follows}
use Rattle.hwdb_plan.specs.Report.{found_asked, found_device, found_given}
use Rattle.hwdb_tool.specs.Reported.{given_in, report_of}
use Rattle.hwdb_tool.specs.Views.{end_of}
use Rattle.hwdb_tool.proofs.reported.over_report.Goals as goal

pub returns-in-Some-clause-follows : goal.returns-in-Some-clause-follows
returns-in-Some-clause-follows g c = λ tells.
    let w = g.D.System.reads c.args.system.now in
    let a = c.args.question in
    let r = report_of a.root.now c.args.report.now in
    subst (λ (all : Bool). Follows end_of w (found_asked r a.form all (given_in a)) c.shown.result) (sym c.if-question.false)
    (subst (λ (o : Option (List ℕ)). Follows end_of w (found_given r a.form o) c.shown.result) (sym (ap (option_map (λ t. t.now)) c.in-Some.is))
    (subst (λ (d : List ℕ). Follows end_of w (found_device r a.form d) c.shown.result) c.as_bytes.ensures.value (c.shown.ensures.follows tells)))

pub returns-in-None-clause-follows : goal.returns-in-None-clause-follows
returns-in-None-clause-follows g c = λ tells.
    let w = g.D.System.reads c.args.system.now in
    let a = c.args.question in
    let r = report_of a.root.now c.args.report.now in
    subst (λ (all : Bool). Follows end_of w (found_asked r a.form all (given_in a)) c.listed.result) (sym c.if-question.false)
    (subst (λ (o : Option (List ℕ)). Follows end_of w (found_given r a.form o) c.listed.result) (sym (ap (option_map (λ t. t.now)) c.in-None.is))
    (c.listed.ensures.follows w a.root.now))
