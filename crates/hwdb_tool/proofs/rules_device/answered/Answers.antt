use Rattle.std.proofs.Common.{Err, List, Ok, map, string_bytes, subst, sym, ℕ}
use Rattle.hwdb_spec_commands.specs.DatabaseErrors.{IsDatabaseRefusal}
use Rattle.hwdb_spec_commands.specs.Databases.{IsTextOf}
use Rattle.hwdb_spec_commands.specs.Told.{IsStop}
use Rattle.hwdb_plan.specs.Asking.{asked}
use Rattle.hwdb_plan.specs.Device.{rules_answer}
use Rattle.hwdb_plan.specs.Dump.{database_stop}
use Rattle.hwdb_plan.specs.Lemmas.Steps.{stopped}
use Rattle.hwdb_ruleasks.specs.Views.{file_of}
use Rattle.hwdb_sysfs.specs.Views.{device_of}
use Rattle.hwdb_tool.specs.Views.{end_of}
use Rattle.hwdb_tool.specs.declared.databases.FoundDatabase.{FoundDatabase}
use Rattle.hwdb_tool.proofs.DevicePlanLemmas.{RulesText, no_rules_text_ends, rules_text_ends}
use Rattle.hwdb_tool.proofs.NamedInputLemmas.{goes_on}
use Rattle.hwdb_tool.proofs.rules_device.answered.Goals as goal

pub returns-in_err-found-clause-follows : goal.returns-in_err-found-clause-follows
returns-in_err-found-clause-follows g c = λ tells sources are.
    let shown = c.args.shown in
    stopped (λ (f : FoundDatabase). string_bytes f.path) (λ f. f.bytes.items) end_of (g.D.System.reads c.args.system.now) (asked c.args.root.now) (rules_answer shown.form sources (device_of shown.device.now))
    c.in_err-found.field-0.0 c.from_residual.result (c.in_err-found.ensures.follows tells) c.from_residual.ensures.1

pub returns-in-Ok-clause-follows : goal.returns-in-Ok-clause-follows
returns-in-Ok-clause-follows g c = λ tells sources are.
    let w = g.D.System.reads c.args.system.now in
    let shown = c.args.shown in
    let device = device_of shown.device.now in
    let files = map file_of shown.files.now in
    let path = string_bytes c.in_ok-found.found.path in
    let a = c.new.result in
    goes_on end_of w (asked c.args.root.now) (rules_answer shown.form sources device) path c.in_ok-found.found.bytes.items (Ok a) (c.in_ok-found.ensures.follows tells)
    (rules_text_ends w shown.form sources files device path c.in_ok-found.found.bytes.items a.status a.err.items a.out.items are c.new.ensures.status c.new.ensures.err
    (subst (λ (t : List ℕ). IsTextOf (RulesText shown.form files device) c.in_ok-found.found.bytes.items t) (sym c.new.ensures.out)
    (subst (λ (b : List ℕ). IsTextOf (RulesText shown.form files device) b c.in-Ok.text.items) c.deref.ensures.value c.in-Ok.ensures.text)))

pub returns-clause-follows : goal.returns-clause-follows
returns-clause-follows g c = λ tells sources are.
    let w = g.D.System.reads c.args.system.now in
    let shown = c.args.shown in
    let device = device_of shown.device.now in
    let path = string_bytes c.in_ok-found.found.path in
    let r = c.refused_database.result in
    goes_on end_of w (asked c.args.root.now) (rules_answer shown.form sources device) path c.in_ok-found.found.bytes.items (Err r) (c.in_ok-found.ensures.follows tells)
    (no_rules_text_ends w shown.form sources device path c.in_ok-found.found.bytes.items c.in-Err.error r
    (subst (λ (b : List ℕ). IsDatabaseRefusal b c.in-Err.error) c.deref.ensures.value c.in-Err.ensures.refusals)
    (subst (λ (p : List ℕ). IsStop (database_stop p c.in-Err.error) r) c.as_bytes.ensures.value c.refused_database.ensures.stops))
