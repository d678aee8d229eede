use Rattle.std.proofs.Common.{◌≡◌, Err, List, Ok, string_bytes, subst, sym, ◌∙◌, ℕ}
use Rattle.hwdb_spec.specs.Lines.{is, pieces}
use Rattle.hwdb_spec_commands.specs.DatabaseErrors.{IsDatabaseRefusal}
use Rattle.hwdb_spec_commands.specs.Databases.{IsTextOf}
use Rattle.hwdb_spec_commands.specs.DeviceTexts.{device_text}
use Rattle.hwdb_spec_commands.specs.DeviceTree.{device_at}
use Rattle.hwdb_spec_commands.specs.Told.{IsStop}
use Rattle.hwdb_plan.specs.Asking.{asked}
use Rattle.hwdb_plan.specs.Dump.{database_stop}
use Rattle.hwdb_plan.specs.Lemmas.Steps.{stopped}
use Rattle.hwdb_plan.specs.Report.{found_answer, sys}
use Rattle.hwdb_spec_program.specs.DeviceErrors.{asked_names}
use Rattle.hwdb_sysfs.specs.Views.{device_of}
use Rattle.hwdb_tool.specs.Reported.{report_of}
use Rattle.hwdb_tool.specs.Views.{end_of}
use Rattle.hwdb_tool.specs.declared.databases.FoundDatabase.{FoundDatabase}
use Rattle.hwdb_tool.proofs.NamedInputLemmas.{goes_on}
use Rattle.hwdb_tool.proofs.ReportPlanLemmas.{found_ends, memory_ends, no_found_ends}
use Rattle.hwdb_tool.proofs.reported.answered.Goals as goal

pub returns-in_err-found-clause-follows : goal.returns-in_err-found-clause-follows
returns-in_err-found-clause-follows g c = λ tells.
    let a = c.args.question in
    stopped (λ (f : FoundDatabase). string_bytes f.path) (λ f. f.bytes.items) end_of (g.D.System.reads c.args.system.now) (asked a.root.now) (found_answer (report_of a.root.now c.args.report.now) a.form c.args.place.now)
    c.in_err-found.field-0.0 c.from_residual.result (c.in_err-found.ensures.follows tells) c.from_residual.ensures.1

pub returns-in_err-device-clause-follows : goal.returns-in_err-device-clause-follows
returns-in_err-device-clause-follows g c = λ tells.
    let a = c.args.question in
    memory_ends end_of (g.D.System.reads c.args.system.now) (asked a.root.now (found_answer (report_of a.root.now c.args.report.now) a.form c.args.place.now)) c.from_residual-in_err-device.result c.from_residual-in_err-device.ensures.1

pub returns-in_err-told-clause-follows : goal.returns-in_err-told-clause-follows
returns-in_err-told-clause-follows g c = λ tells.
    let a = c.args.question in
    memory_ends end_of (g.D.System.reads c.args.system.now) (asked a.root.now (found_answer (report_of a.root.now c.args.report.now) a.form c.args.place.now)) c.from_residual-in_err-told.result c.from_residual-in_err-told.ensures.1

pub returns-in-Ok-clause-follows : goal.returns-in-Ok-clause-follows
returns-in-Ok-clause-follows g c = λ tells.
    let w = g.D.System.reads c.args.system.now in
    let wanted = c.args.question in
    let r = report_of wanted.root.now c.args.report.now in
    let device = device_of c.in_ok-device.device in
    let path = string_bytes c.in_ok-found.found.path in
    let bytes = c.in_ok-found.found.bytes.items in
    let a = c.with_error.result in
    let read : device ≡ device_at r.sight asked_names sys c.args.place.now = subst (λ (n : List ℕ). device ≡ device_at r.sight (pieces (is 10) n) sys c.args.place.now) c.as_bytes.ensures.value (c.in_ok-device.ensures tt) in
    goes_on end_of w (asked wanted.root.now) (found_answer r wanted.form c.args.place.now) path bytes (Ok a) (c.in_ok-found.ensures.follows tells)
    (found_ends w r wanted.form c.args.place.now path bytes device a.status a.err.items a.out.items c.with_error.ensures.status (c.with_error.ensures.err ∙ c.in_ok-told.ensures) read
    (subst (λ (t : List ℕ). IsTextOf (device_text wanted.form device) bytes t) (sym c.with_error.ensures.out)
    (subst (λ (b : List ℕ). IsTextOf (device_text wanted.form device) b c.in-Ok.text.items) c.deref.ensures.value c.in-Ok.ensures.text)))

pub returns-clause-follows : goal.returns-clause-follows
returns-clause-follows g c = λ tells.
    let w = g.D.System.reads c.args.system.now in
    let wanted = c.args.question in
    let r = report_of wanted.root.now c.args.report.now in
    let path = string_bytes c.in_ok-found.found.path in
    let bytes = c.in_ok-found.found.bytes.items in
    let x = c.refused_database.result in
    goes_on end_of w (asked wanted.root.now) (found_answer r wanted.form c.args.place.now) path bytes (Err x) (c.in_ok-found.ensures.follows tells)
    (no_found_ends w r wanted.form c.args.place.now path bytes c.in-Err.error x
    (subst (λ (b : List ℕ). IsDatabaseRefusal b c.in-Err.error) c.deref.ensures.value c.in-Err.ensures.refusals)
    (subst (λ (p : List ℕ). IsStop (database_stop p c.in-Err.error) x) c.as_bytes-in-Err.ensures.value c.refused_database.ensures.stops))
