use Rattle.std.proofs.Common.{Bor, Err, List, ap, refl, sym, ◌∙◌, ℕ}
use Rattle.std.specs.Prelude.{option_map}
use Rattle.hwdb_plan.specs.Asking.{asked}
use Rattle.hwdb_plan.specs.Report.{found_strings}
use Rattle.hwdb_tool.specs.Reported.{given_in, report_of}
use Rattle.hwdb_tool.specs.Views.{end_of}
use Rattle.hwdb_tool.proofs.ReportPlanLemmas.{fits_follow, misused_follows}
use Rattle.hwdb_tool.proofs.reported.every.Goals as goal

pub returns-in-None-clause-follows : goal.returns-in-None-clause-follows
returns-in-None-clause-follows g c = λ tells.
    let a = c.args.question in
    fits_follow end_of (g.D.System.reads c.args.system.now) a.form (given_in a) (asked a.root.now (found_strings (report_of a.root.now c.args.report.now))) c.all_strings.result
    (sym c.all_misuse.ensures ∙ ap (option_map (λ (t : Bor (List ℕ)). t.now)) c.in-None.is) (c.all_strings.ensures.follows tells)

pub returns-in-Some-clause-follows : goal.returns-in-Some-clause-follows
returns-in-Some-clause-follows g c = λ tells.
    let a = c.args.question in
    misused_follows end_of (g.D.System.reads c.args.system.now) a.form (given_in a) (asked a.root.now (found_strings (report_of a.root.now c.args.report.now))) c.in-Some.text.now c.misused.result (Err c.misused.result)
    (sym c.all_misuse.ensures ∙ ap (option_map (λ (t : Bor (List ℕ)). t.now)) c.in-Some.is) c.misused.ensures refl
