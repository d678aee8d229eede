use Rattle.std.proofs.Common.{◌≡◌, ◌++◌, map, take}
use Rattle.std.specs.Prelude.{flat_map}
use Rattle.hwdb_spec_commands.specs.Wanted.{device_held, device_text}
use Rattle.hwdb_test.specs.Views.{device_at, line_at}
use Rattle.hwdb_test.proofs.trials.try_record.Given as goal

abbrev pub invariant-loop-device : goal.invariant-loop-device
invariant-loop-device l = record {
  text : l.told.text.items ≡ l.fn.told.text.items
      ++ flat_map (device_text l.trial.form.json l.trial.form.path.now (map line_at l.record.lines.items) l.trial.db.now) (map device_at (take l.device-index l.record.devices.items));
  held : l.told.held.items ≡ l.fn.told.held.items ++ flat_map (device_held (map line_at l.record.lines.items) l.trial.db.now) (map device_at (take l.device-index l.record.devices.items));
}
