use Rattle.std.proofs.Common.{◌∙◌, map}
use Rattle.hwdb_spec_commands.specs.Recorded.{unsaid}
use Rattle.hwdb_tool.proofs.RecordPlanLemmas.{recorded_ends, unrecorded_ends}
use Rattle.hwdb_tool.proofs.record_command.record_from.Goals as goal

pub returns-in-Ok : goal.returns-in-Ok
returns-in-Ok c = record {
  follows = λ w path bytes is.
      let a = c.new.result in
      recorded_ends w (map (λ d. d.now) c.args.devices.now) path bytes c.args.db.now a.status a.err.items a.out.items is c.new.ensures.status c.new.ensures.err (c.new.ensures.out ∙ c.in-Ok.ensures.text) c.in-Ok.ensures.said;
}

pub returns-in-Err : goal.returns-in-Err
returns-in-Err c = record {
  follows = λ w path bytes is.
      let devices = map (λ d. d.now) c.args.devices.now in
      unrecorded_ends w devices path bytes c.args.db.now c.refusal_of.result is (c.refusal_of.ensures (unsaid c.args.db.now devices) c.in-Err.ensures.errors);
}
