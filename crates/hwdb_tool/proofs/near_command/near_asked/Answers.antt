use Rattle.std.proofs.Common.{string_bytes, subst, sym, Err, Ok, List, ℕ}
use Rattle.hwdb_near.specs.Refusals.{IsNearRefusal}
use Rattle.hwdb_spec_commands.specs.Databases.{IsTextOf}
use Rattle.hwdb_spec_commands.specs.NearAsked.{database_patterns, near_form}
use Rattle.hwdb_spec_commands.specs.Told.{IsStop}
use Rattle.hwdb_plan.specs.Asking.{asked}
use Rattle.hwdb_plan.specs.Dump.{database_stop}
use Rattle.hwdb_plan.specs.Lemmas.Steps.{stopped}
use Rattle.hwdb_plan.specs.Near.{near_database}
use Rattle.hwdb_tool.specs.Views.{end_of}
use Rattle.hwdb_tool.specs.declared.databases.FoundDatabase.{FoundDatabase}
use Rattle.hwdb_tool.proofs.NamedInputLemmas.{goes_on}
use Rattle.hwdb_tool.proofs.PlanLemmas.{near_ends, not_near_ends}
use Rattle.hwdb_tool.proofs.near_command.near_asked.Goals as goal

pub returns-in_err-found-clause-follows : goal.returns-in_err-found-clause-follows
returns-in_err-found-clause-follows g c = λ tells.
    stopped (λ (f : FoundDatabase). string_bytes f.path) (λ f. f.bytes.items) end_of (g.D.System.reads c.args.system.now) (asked c.args.question.root.now) (near_database (near_form c.args.question.json c.args.question.device.now c.args.question.limit))
    c.in_err-found.field-0.0 c.from_residual.result (c.in_err-found.ensures.follows tells) c.from_residual.ensures.1

pub returns-in-Ok-clause-follows : goal.returns-in-Ok-clause-follows
returns-in-Ok-clause-follows g c = λ tells.
    let w = g.D.System.reads c.args.system.now in
    let form = near_form c.args.question.json c.args.question.device.now c.args.question.limit in
    let path = string_bytes c.in_ok-found.found.path in
    let a = c.new.result in
    goes_on end_of w (asked c.args.question.root.now) (near_database form) path c.in_ok-found.found.bytes.items (Ok a) (c.in_ok-found.ensures.follows tells)
    (near_ends w form path c.in_ok-found.found.bytes.items a.status a.err.items a.out.items c.new.ensures.status c.new.ensures.err
    (subst (λ (t : List ℕ). IsTextOf (λ tree. form (database_patterns tree)) c.in_ok-found.found.bytes.items t) (sym c.new.ensures.out)
    (subst (λ (b : List ℕ). IsTextOf (λ tree. form (database_patterns tree)) b c.in-Ok.text.items) c.deref.ensures.value c.in-Ok.ensures.text)))

pub returns-clause-follows : goal.returns-clause-follows
returns-clause-follows g c = λ tells.
    let w = g.D.System.reads c.args.system.now in
    let form = near_form c.args.question.json c.args.question.device.now c.args.question.limit in
    let path = string_bytes c.in_ok-found.found.path in
    let r = c.refused_database.result in
    goes_on end_of w (asked c.args.question.root.now) (near_database form) path c.in_ok-found.found.bytes.items (Err r) (c.in_ok-found.ensures.follows tells)
    (not_near_ends w form path c.in_ok-found.found.bytes.items c.in-Err.error c.error_of-error.result r
    (subst (λ (b : List ℕ). IsNearRefusal b c.in-Err.error) c.deref.ensures.value c.in-Err.ensures.errors) c.error_of-error.ensures
    (subst (λ (p : List ℕ). IsStop (database_stop p c.error_of-error.result) r) c.as_bytes.ensures.value c.refused_database.ensures.stops))
