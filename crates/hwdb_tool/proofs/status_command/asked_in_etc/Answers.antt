use Rattle.std.proofs.Common.{Some, true}
use Rattle.hwdb_tool.specs.Statuses.{places}
use Rattle.hwdb_tool.specs.declared.status_command.AskedDatabase.{AskedDatabase}
use Rattle.hwdb_plan.specs.Status.{InPlaces}
use Rattle.hwdb_tool.proofs.StatusPlanLemmas.{etc_places, held_in, second_seen, second_unseen}
use Rattle.hwdb_tool.proofs.status_command.asked_in_etc.Goals as goal

abbrev value : AskedDatabase → InPlaces
value a = places a.etc a.usr (held_in a.bytes) (held_in a.hidden)

pub returns-clause-told : goal.returns-clause-told
returns-clause-told g c = λ tells.
    second_seen (g.D.System.reads c.args.system.now) held_in value c.args.root.now (Some c.args.bytes.items) c.in_ok-hidden.hidden
    (record { etc = true; usr = c.is_some.result; bytes = Some c.args.bytes; hidden = c.in_ok-hidden.hidden }) (c.in_ok-hidden.ensures.told tells)
    (etc_places c.args.bytes.items c.in_ok-hidden.hidden c.is_some.result c.is_some.ensures)

pub returns-in_err-hidden-clause-told : goal.returns-in_err-hidden-clause-told
returns-in_err-hidden-clause-told g c = λ tells.
    second_unseen (g.D.System.reads c.args.system.now) held_in value c.args.root.now (Some c.args.bytes.items) c.in_err-hidden.field-0.0 c.from_residual.result (c.in_err-hidden.ensures.told tells) c.from_residual.ensures.1
