use Rattle.std.proofs.Common.{◌≡◌, drop, map, take}
use Rattle.hwdb_spec_commands.specs.Recorded.{recorded_text, unsaid_among}
use Rattle.hwdb_test.specs.Views.{device_at}
use Rattle.hwdb_test.proofs.recording.records.Given as goal

abbrev pub invariant-loop-device : goal.invariant-loop-device
invariant-loop-device l = record {
  text : l.text.items ≡ recorded_text l.db (map device_at (take l.device-index l.devices));
  said : unsaid_among l.db (map device_at l.devices) ≡ unsaid_among l.db (map device_at (drop l.device-index l.devices));
}
