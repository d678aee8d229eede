use Rattle.std.proofs.Common.{None, false}
use Rattle.hwdb_tool.specs.Statuses.{places}
use Rattle.hwdb_tool.specs.declared.status_command.AskedDatabase.{AskedDatabase}
use Rattle.hwdb_plan.specs.Status.{InPlaces}
use Rattle.hwdb_tool.proofs.StatusPlanLemmas.{held_in, second_seen, second_unseen, usr_places}
use Rattle.hwdb_tool.proofs.status_command.asked_in_usr.Goals as goal

abbrev value : AskedDatabase → InPlaces
value a = places a.etc a.usr (held_in a.bytes) (held_in a.hidden)

pub returns-clause-told : goal.returns-clause-told
returns-clause-told g c = λ tells.
    second_seen (g.D.System.reads c.args.system.now) held_in value c.args.root.now None c.in_ok-bytes.bytes (record { etc = false; usr = c.is_some.result; bytes = c.in_ok-bytes.bytes; hidden = None }) (c.in_ok-bytes.ensures.told tells) (usr_places c.in_ok-bytes.bytes c.is_some.result c.is_some.ensures)

pub returns-in_err-bytes-clause-told : goal.returns-in_err-bytes-clause-told
returns-in_err-bytes-clause-told g c = λ tells.
    second_unseen (g.D.System.reads c.args.system.now) held_in value c.args.root.now None c.in_err-bytes.field-0.0 c.from_residual.result (c.in_err-bytes.ensures.told tells) c.from_residual.ensures.1
