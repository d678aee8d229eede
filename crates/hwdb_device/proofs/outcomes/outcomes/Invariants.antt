use Rattle.std.proofs.Common.{◌≡◌, ◌++◌, length, map}
use Rattle.hwdb_spec_commands.specs.DeviceTexts
use Rattle.hwdb_device.specs.Views.{gifts_in, outcomes_in}
use Rattle.hwdb_device.proofs.outcomes.outcomes.Given as goal

abbrev pub invariant-keys : goal.invariant-keys
invariant-keys l = outcomes_in l.outcomes.items ++ map (λ k. (k.items, DeviceTexts.given_to k.items (gifts_in l.gifts))) l.keys.keys ≡ DeviceTexts.results (gifts_in l.gifts)

abbrev pub decreases-keys : goal.decreases-keys
decreases-keys l = length l.keys.keys
