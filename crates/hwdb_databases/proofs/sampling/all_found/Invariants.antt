use Rattle.std.proofs.Common.{◌≡◌, flat_map, map, take}
use Rattle.hwdb_spec_commands.specs.SampleDevices.{devices_shown, left_undecided}
use Rattle.hwdb_samples.specs.Views.{key_shown}
use Rattle.hwdb_databases.proofs.sampling.all_found.Given as goal

abbrev pub invariant-loop-key : goal.invariant-loop-key
invariant-loop-key l = record {
  devices : map (λ t. t.items) l.all.devices.items ≡ flat_map devices_shown (map key_shown (take l.key-index l.list));
  undecided : map (λ t. t.items) l.all.undecided.items ≡ flat_map left_undecided (map key_shown (take l.key-index l.list));
}
