use Rattle.std.proofs.Common.{Err, List, Ok, string_bytes, subst, sym, ◌∙◌, ℕ}
use Rattle.hwdb_exports.specs.declared.export.Export.{Export}
use Rattle.hwdb_spec_commands.specs.AllStrings.{all_strings_text}
use Rattle.hwdb_spec.specs.Lines.{is, pieces}
use Rattle.hwdb_spec_commands.specs.DatabaseErrors.{IsDatabaseRefusal}
use Rattle.hwdb_spec_commands.specs.Databases.{IsTextOf}
use Rattle.hwdb_spec_commands.specs.Exports.{export_sight}
use Rattle.hwdb_spec_commands.specs.Told.{IsStop}
use Rattle.hwdb_spec_program.specs.DeviceErrors.{asked_names}
use Rattle.hwdb_plan.specs.Asking.{asked}
use Rattle.hwdb_plan.specs.Dump.{database_stop}
use Rattle.hwdb_plan.specs.Lemmas.Steps.{stopped}
use Rattle.hwdb_plan.specs.Report.{found_strings, sys}
use Rattle.hwdb_tool.specs.Reported.{report_of}
use Rattle.hwdb_tool.specs.Views.{end_of}
use Rattle.hwdb_tool.specs.declared.databases.FoundDatabase.{FoundDatabase}
use Rattle.hwdb_tool.proofs.NamedInputLemmas.{goes_on}
use Rattle.hwdb_tool.proofs.ReportPlanLemmas.{memory_ends, no_strings_ends, strings_ends}
use Rattle.hwdb_tool.proofs.reported.all_strings.Goals as goal

pub returns-in_err-found-clause-follows : goal.returns-in_err-found-clause-follows
returns-in_err-found-clause-follows g c = λ tells.
    let root = c.args.question.root.now in
    stopped (λ (f : FoundDatabase). string_bytes f.path) (λ f. f.bytes.items) end_of (g.D.System.reads c.args.system.now) (asked root) (found_strings (report_of root c.args.report.now))
    c.in_err-found.field-0.0 c.from_residual.result (c.in_err-found.ensures.follows tells) c.from_residual.ensures.1

pub returns-in_err-told-clause-follows : goal.returns-in_err-told-clause-follows
returns-in_err-told-clause-follows g c = λ tells.
    let root = c.args.question.root.now in
    memory_ends end_of (g.D.System.reads c.args.system.now) (asked root (found_strings (report_of root c.args.report.now))) c.from_residual-in_err-told.result c.from_residual-in_err-told.ensures.1

pub returns-in-Ok-clause-follows : goal.returns-in-Ok-clause-follows
returns-in-Ok-clause-follows g c = λ tells.
    let w = g.D.System.reads c.args.system.now in
    let root = c.args.question.root.now in
    let r = report_of root c.args.report.now in
    let path = string_bytes c.in_ok-found.found.path in
    let bytes = c.in_ok-found.found.bytes.items in
    let a = c.with_error.result in
    let sysfs = c.for_rules-sysfs.result in
    goes_on end_of w (asked root) (found_strings r) path bytes (Ok a) (c.in_ok-found.ensures.follows tells)
    (strings_ends w r path bytes a.status a.err.items a.out.items c.with_error.ensures.status (c.with_error.ensures.err ∙ c.in_ok-told.ensures)
    (subst (λ (t : List ℕ). IsTextOf (all_strings_text r.sight asked_names sys) bytes t) (sym c.with_error.ensures.out)
    (subst (λ (b : List ℕ). IsTextOf (all_strings_text r.sight asked_names sys) b c.in-Ok.text.items) c.deref.ensures.value
    (subst (λ (f : List ℕ). IsTextOf (all_strings_text r.sight asked_names f) c.deref.result.now c.in-Ok.text.items) c.for_rules-sysfs.ensures.folder
    (subst (λ (n : List (List ℕ)). IsTextOf (all_strings_text r.sight n sysfs.folder.now) c.deref.result.now c.in-Ok.text.items) c.for_rules-sysfs.ensures.names
    (subst (λ (e : Export). IsTextOf (all_strings_text (export_sight e.bytes.now) (pieces (is 10) sysfs.names.now) sysfs.folder.now) c.deref.result.now c.in-Ok.text.items) c.for_rules-sysfs.ensures.files
    (c.in-Ok.ensures.text tt)))))))

pub returns-clause-follows : goal.returns-clause-follows
returns-clause-follows g c = λ tells.
    let w = g.D.System.reads c.args.system.now in
    let root = c.args.question.root.now in
    let r = report_of root c.args.report.now in
    let path = string_bytes c.in_ok-found.found.path in
    let bytes = c.in_ok-found.found.bytes.items in
    let x = c.refused_database.result in
    goes_on end_of w (asked root) (found_strings r) path bytes (Err x) (c.in_ok-found.ensures.follows tells)
    (no_strings_ends w r path bytes c.in-Err.error x
    (subst (λ (b : List ℕ). IsDatabaseRefusal b c.in-Err.error) c.deref.ensures.value c.in-Err.ensures.refusals)
    (subst (λ (p : List ℕ). IsStop (database_stop p c.in-Err.error) x) c.as_bytes.ensures.value c.refused_database.ensures.stops))
