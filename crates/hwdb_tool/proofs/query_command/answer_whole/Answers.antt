use Rattle.std.proofs.Common.{map, subst, string_bytes, sym, List, ℕ}
use Rattle.hwdb_spec_commands.specs.DatabaseErrors.{IsDatabaseRefusal}
use Rattle.hwdb_spec_commands.specs.Databases.{IsTextOf}
use Rattle.hwdb_spec_commands.specs.Streams.{texts_of}
use Rattle.hwdb_spec_commands.specs.Told.{IsStop}
use Rattle.hwdb_plan.specs.Answers.{answered}
use Rattle.hwdb_plan.specs.Asking.{asked}
use Rattle.hwdb_plan.specs.Dump.{database_stop}
use Rattle.hwdb_plan.specs.Lemmas.Steps.{stopped}
use Rattle.hwdb_tool.specs.Views.{end_of}
use Rattle.hwdb_tool.specs.declared.databases.FoundDatabase.{FoundDatabase}
use Rattle.hwdb_tool.proofs.LookupPlanLemmas.{answered_ends, unanswered_ends}
use Rattle.hwdb_tool.proofs.query_command.answer_whole.Goals as goal

pub returns-in_err-found-clause-follows : goal.returns-in_err-found-clause-follows
returns-in_err-found-clause-follows g c = λ tells.
    stopped (λ (f : FoundDatabase). string_bytes f.path) (λ f. f.bytes.items) end_of (g.D.System.reads c.args.system.now) (asked c.args.root.now) (answered c.args.form (map string_bytes c.args.devices.now)) c.in_err-found.field-0.0 c.from_residual.result
    (c.in_err-found.ensures.follows tells) c.from_residual.ensures.1

pub returns-in-Ok-clause-follows : goal.returns-in-Ok-clause-follows
returns-in-Ok-clause-follows g c = λ tells.
    let f = c.in_ok-found.found in
    let a = c.new.result in
    answered_ends (g.D.System.reads c.args.system.now) (asked c.args.root.now) (string_bytes f.path) f.bytes.items (c.in_ok-found.ensures.follows tells) c.args.form (map string_bytes c.args.devices.now) a.status a.err.items a.out.items
    c.new.ensures.status c.new.ensures.err
    (subst (λ (t : List ℕ). IsTextOf (texts_of c.args.form (map string_bytes c.args.devices.now)) f.bytes.items t) (sym c.new.ensures.out)
    (subst (λ (b : List ℕ). IsTextOf (texts_of c.args.form (map string_bytes c.args.devices.now)) b c.in-Ok.text.items) c.deref.ensures.value c.in-Ok.ensures.text))

pub returns-clause-follows : goal.returns-clause-follows
returns-clause-follows g c = λ tells.
    let f = c.in_ok-found.found in
    unanswered_ends (g.D.System.reads c.args.system.now) (asked c.args.root.now) (string_bytes f.path) f.bytes.items (c.in_ok-found.ensures.follows tells) c.args.form (map string_bytes c.args.devices.now) c.in-Err.error c.refused_database.result
    (subst (λ (b : List ℕ). IsDatabaseRefusal b c.in-Err.error) c.deref.ensures.value c.in-Err.ensures.refusals)
    (subst (λ (p : List ℕ). IsStop (database_stop p c.in-Err.error) c.refused_database.result) c.as_bytes.ensures.value c.refused_database.ensures.stops)
