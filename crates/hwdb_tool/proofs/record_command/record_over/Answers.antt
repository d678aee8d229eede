use Rattle.std.proofs.Common.{map}
use Rattle.hwdb_tool.proofs.RecordPlanLemmas.{undecoded_ends}
use Rattle.hwdb_tool.proofs.record_command.record_over.Goals as goal

pub returns-in-Ok : goal.returns-in-Ok
returns-in-Ok c = record { follows = λ w. c.record_from.ensures.follows w c.args.path.now c.args.bytes.now c.in-Ok.ensures.accepted }

pub returns-in-Err : goal.returns-in-Err
returns-in-Err c = record {
  follows = λ w. undecoded_ends w (map (λ d. d.now) c.args.devices.now) c.args.path.now c.args.bytes.now c.in-Err.fault c.refused_database.result (record { stands = c.in-Err.ensures.fault; no_tree = c.in-Err.ensures.refused }) c.refused_database.ensures.stops;
}
