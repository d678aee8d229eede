use Rattle.std.proofs.Common.{◌∙◌}
use Rattle.hwdb_spec_commands.specs.DeviceAsked.{device_list}
use Rattle.hwdb_plan.specs.Report.{found_devices, sys}
use Rattle.hwdb_spec_program.specs.DeviceErrors.{asked_names}
use Rattle.hwdb_tool.specs.Reported.{report_of}
use Rattle.hwdb_tool.specs.Views.{end_of}
use Rattle.hwdb_tool.proofs.ReportPlanLemmas.{answers_are, listed_follows, memory_ends}
use Rattle.hwdb_tool.proofs.reported.listed.Goals as goal

pub returns-in_err-text-clause-follows : goal.returns-in_err-text-clause-follows
returns-in_err-text-clause-follows c = λ w root. memory_ends end_of w (found_devices (report_of root c.args.report.now)) c.from_residual.result c.from_residual.ensures.1

pub returns-in_err-told-clause-follows : goal.returns-in_err-told-clause-follows
returns-in_err-told-clause-follows c = λ w root. memory_ends end_of w (found_devices (report_of root c.args.report.now)) c.from_residual-in_err-told.result c.from_residual-in_err-told.ensures.1

pub returns-clause-follows : goal.returns-clause-follows
returns-clause-follows c = λ w root.
    let r = report_of root c.args.report.now in
    let a = c.with_error.result in
    listed_follows end_of w r a
    (answers_are a.status a.err.items a.out.items r.lacks (device_list r.sight asked_names sys) c.with_error.ensures.status (c.with_error.ensures.err ∙ c.in_ok-told.ensures) (c.with_error.ensures.out ∙ c.in_ok-text.ensures tt))
