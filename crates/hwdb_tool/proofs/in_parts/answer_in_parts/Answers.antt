use Rattle.std.proofs.Common.{◌≡◌, map, string_bytes, subst, sym, List, Ok, Some, ℕ}
use Rattle.hwdb_spec_commands.specs.Databases.{IsTextOf}
use Rattle.hwdb_spec_commands.specs.Streams.{texts_of}
use Rattle.hwdb_plan.specs.Asking.{asked}
use Rattle.hwdb_tool.proofs.LookupPlanLemmas.{answered_ends}
use Rattle.hwdb_tool.proofs.in_parts.answer_in_parts.Goals as goal

pub returns-clause-follows : goal.returns-clause-follows
returns-clause-follows g c = λ tells.
    let w = g.D.System.reads c.args.system.now in
    let a = c.new.result in
    let path = string_bytes c.in_ok-path.path in
    let h = c.in_ok-text.ensures tells in
    let told = subst (λ (p : List ℕ). w.database p ≡ Ok (Some h.0)) c.as_str.ensures.value h.1 in
    answered_ends w (asked c.args.root.now) path h.0 (λ next e ends. c.in_ok-path.ensures tells next h.0 e told ends) c.args.form (map string_bytes c.args.devices.now) a.status a.err.items a.out.items c.new.ensures.status c.new.ensures.err
    (subst (λ (t : List ℕ). IsTextOf (texts_of c.args.form (map string_bytes c.args.devices.now)) h.0 t) (sym c.new.ensures.out) h.2)
