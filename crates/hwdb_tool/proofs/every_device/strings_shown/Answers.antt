use Rattle.std.proofs.Common.{◌∙◌, Err, List, Ok, string_bytes, subst, sym, ℕ}
use Rattle.hwdb_spec.specs.Lines.{is, pieces}
use Rattle.hwdb_spec_commands.specs.DatabaseErrors.{IsDatabaseRefusal}
use Rattle.hwdb_spec_commands.specs.Databases.{IsTextOf}
use Rattle.hwdb_spec_commands.specs.SysfsAnswers.{sight_by}
use Rattle.hwdb_spec_commands.specs.Told.{IsStop}
use Rattle.hwdb_spec_rules.specs.RuleAnswers.{all_asked_text}
use Rattle.hwdb_plan.specs.Asking.{asked}
use Rattle.hwdb_plan.specs.Device.{strings_answer}
use Rattle.hwdb_plan.specs.Dump.{database_stop}
use Rattle.hwdb_plan.specs.Lemmas.Steps.{stopped}
use Rattle.hwdb_device.specs.Views.{files_in}
use Rattle.hwdb_tool.specs.Views.{end_of}
use Rattle.hwdb_tool.specs.declared.databases.FoundDatabase.{FoundDatabase}
use Rattle.hwdb_tool.proofs.DevicePlanLemmas.{memory_follows, no_strings_end, strings_end}
use Rattle.hwdb_tool.proofs.NamedInputLemmas.{goes_on}
use Rattle.hwdb_tool.proofs.every_device.strings_shown.Goals as goal

pub returns-in_err-found-clause-follows : goal.returns-in_err-found-clause-follows
returns-in_err-found-clause-follows g c = λ tells.
    let sysfs = c.args.sysfs.now in
    let s = sysfs.files.now in
    stopped (λ (f : FoundDatabase). string_bytes f.path) (λ f. f.bytes.items) end_of (g.D.System.reads s) (asked c.args.root.now)
    (strings_answer (sight_by g.D.DeviceFiles.answers s) (files_in c.args.files) (pieces (is 10) sysfs.names.now) sysfs.folder.now) c.in_err-found.field-0.0 c.from_residual.result
    (c.in_err-found.ensures.follows tells) c.from_residual.ensures.1

pub returns-in_err-told-clause-follows : goal.returns-in_err-told-clause-follows
returns-in_err-told-clause-follows g c = λ tells.
    let sysfs = c.args.sysfs.now in
    let s = sysfs.files.now in
    memory_follows end_of (g.D.System.reads s) (asked c.args.root.now (strings_answer (sight_by g.D.DeviceFiles.answers s) (files_in c.args.files) (pieces (is 10) sysfs.names.now) sysfs.folder.now))
    c.from_residual-in_err-told.result c.from_residual-in_err-told.ensures.1

pub returns-in-Ok-clause-follows : goal.returns-in-Ok-clause-follows
returns-in-Ok-clause-follows g c = λ tells.
    let sysfs = c.args.sysfs.now in
    let s = sysfs.files.now in
    let w = g.D.System.reads s in
    let sight = sight_by g.D.DeviceFiles.answers s in
    let files = files_in c.args.files in
    let names = pieces (is 10) sysfs.names.now in
    let sys = sysfs.folder.now in
    let told = c.devices_are_told.ensures tells in
    let path = string_bytes c.in_ok-found.found.path in
    let a = c.with_error.result in
    goes_on end_of w (asked c.args.root.now) (strings_answer sight files names sys) path c.in_ok-found.found.bytes.items (Ok a) (c.in_ok-found.ensures.follows tells)
    (strings_end w sight files names sys path c.in_ok-found.found.bytes.items a.status a.err.items a.out.items c.with_error.ensures.status (c.with_error.ensures.err ∙ c.in_ok-told.ensures told)
    (subst (λ (t : List ℕ). IsTextOf (all_asked_text files sight names sys) c.in_ok-found.found.bytes.items t) (sym c.with_error.ensures.out)
    (subst (λ (b : List ℕ). IsTextOf (all_asked_text files sight names sys) b c.in-Ok.text.items) c.deref.ensures.value (c.in-Ok.ensures.text told))))

pub returns-clause-follows : goal.returns-clause-follows
returns-clause-follows g c = λ tells.
    let sysfs = c.args.sysfs.now in
    let s = sysfs.files.now in
    let w = g.D.System.reads s in
    let sight = sight_by g.D.DeviceFiles.answers s in
    let files = files_in c.args.files in
    let names = pieces (is 10) sysfs.names.now in
    let sys = sysfs.folder.now in
    let path = string_bytes c.in_ok-found.found.path in
    let r = c.refused_database.result in
    goes_on end_of w (asked c.args.root.now) (strings_answer sight files names sys) path c.in_ok-found.found.bytes.items (Err r) (c.in_ok-found.ensures.follows tells)
    (no_strings_end w sight files names sys path c.in_ok-found.found.bytes.items c.in-Err.error r
    (subst (λ (b : List ℕ). IsDatabaseRefusal b c.in-Err.error) c.deref.ensures.value c.in-Err.ensures.refusals)
    (subst (λ (p : List ℕ). IsStop (database_stop p c.in-Err.error) r) c.as_bytes.ensures.value c.refused_database.ensures.stops))
