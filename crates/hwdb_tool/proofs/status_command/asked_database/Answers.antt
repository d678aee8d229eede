use Rattle.std.proofs.Common.{List, None, Option, Some, ap, option_map, ℕ}
use Rattle.hwdb_plan.specs.Status.{InPlaces}
use Rattle.hwdb_tool.specs.Statuses.{places}
use Rattle.hwdb_tool.specs.declared.databases.FoundDatabase.{FoundDatabase}
use Rattle.hwdb_tool.specs.declared.status_command.AskedDatabase.{AskedDatabase}
use Rattle.hwdb_tool.proofs.StatusPlanLemmas.{first_seen, first_unseen, held_in}
use Rattle.hwdb_tool.proofs.status_command.asked_database.Goals as goal

abbrev bytes : Option FoundDatabase → Option (List ℕ)
bytes found = option_map (λ f. f.bytes.items) found

abbrev value : AskedDatabase → InPlaces
value a = places a.etc a.usr (held_in a.bytes) (held_in a.hidden)

pub returns-in_err-found-clause-told : goal.returns-in_err-found-clause-told
returns-in_err-found-clause-told g c = λ tells.
    first_unseen (g.D.System.reads c.args.system.now) bytes value c.args.root.now c.in_err-found.field-0.0 c.from_residual.result (c.in_err-found.ensures.told tells) c.from_residual.ensures.1

pub returns-in-Some-clause-told : goal.returns-in-Some-clause-told
returns-in-Some-clause-told g c = λ tells.
    first_seen (g.D.System.reads c.args.system.now) bytes value c.args.root.now c.in_ok-found.field-0 (Some c.in-Some.found.bytes.items) c.asked_in_etc.result (c.in_ok-found.ensures.told tells)
    (ap bytes c.in-Some.is) (c.asked_in_etc.ensures.told tells)

pub returns-in-None-clause-told : goal.returns-in-None-clause-told
returns-in-None-clause-told g c = λ tells.
    first_seen (g.D.System.reads c.args.system.now) bytes value c.args.root.now c.in_ok-found.field-0 None c.asked_in_usr.result (c.in_ok-found.ensures.told tells) (ap bytes c.in-None.is)
    (c.asked_in_usr.ensures.told tells)
