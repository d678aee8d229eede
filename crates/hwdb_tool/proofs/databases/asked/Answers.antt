use Rattle.std.proofs.Common.{◌∙◌, ap, inr, option_map, string_bytes, List, Ok, ℕ}
use Rattle.hwdb_plan.specs.Lemmas.Asking.{first_found, first_stops, none_found, second_found, second_stops}
use Rattle.hwdb_tool.specs.declared.databases.FoundDatabase.{FoundDatabase}
use Rattle.hwdb_tool.proofs.databases.asked.Goals as goal

abbrev at : FoundDatabase → List ℕ
at f = string_bytes f.path

abbrev of : FoundDatabase → List ℕ
of f = f.bytes.items

pub returns-in_err-found-clause-follows : goal.returns-in_err-found-clause-follows
returns-in_err-found-clause-follows g c = λ tells.
    first_stops at of (g.D.System.reads c.args.system.now) c.args.root.now c.in_err-found.field-0.0 c.from_residual.result (c.in_err-found.ensures.told tells) c.from_residual.ensures.1

pub returns-in-Some-clause-follows : goal.returns-in-Some-clause-follows
returns-in-Some-clause-follows g c = λ tells.
    first_found at of (g.D.System.reads c.args.system.now) c.args.root.now c.in_ok-found.field-0 c.in-Some.found (c.in_ok-found.ensures.told tells) c.in_ok-found.ensures.path c.in-Some.is

pub returns-in_err-found-2-clause-follows : goal.returns-in_err-found-2-clause-follows
returns-in_err-found-2-clause-follows g c = λ tells.
    second_stops at of (g.D.System.reads c.args.system.now) c.args.root.now c.in_err-found-2.field-0.0 c.from_residual-in_err-found-2.result
    (c.in_ok-found.ensures.told tells ∙ ap (λ o. Ok (option_map of o)) c.in_default.is) (c.in_err-found-2.ensures.told tells) c.from_residual-in_err-found-2.ensures.1

pub returns-in-Some-2-clause-follows : goal.returns-in-Some-2-clause-follows
returns-in-Some-2-clause-follows g c = λ tells.
    second_found at of (g.D.System.reads c.args.system.now) c.args.root.now c.in_ok-found-2.field-0 c.in-Some-2.found
    (c.in_ok-found.ensures.told tells ∙ ap (λ o. Ok (option_map of o)) c.in_default.is) (c.in_ok-found-2.ensures.told tells) c.in_ok-found-2.ensures.path c.in-Some-2.is

pub returns-in-None-clause-follows : goal.returns-in-None-clause-follows
returns-in-None-clause-follows g c = λ tells.
    inr (none_found (g.D.System.reads c.args.system.now) c.args.root.now (c.in_ok-found.ensures.told tells ∙ ap (λ o. Ok (option_map of o)) c.in_default.is)
    (c.in_ok-found-2.ensures.told tells ∙ ap (λ o. Ok (option_map of o)) c.in-None.is))
