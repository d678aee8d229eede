use Rattle.std.proofs.Common.{◌≡◌, take}
use Rattle.hwdb_spec_commands.specs.DeviceTexts
use Rattle.hwdb_device.specs.Views.{all_found, gifts_in}
use Rattle.hwdb_device.proofs.gifts.all_gifts.Given as goal

abbrev pub invariant-loop-one : goal.invariant-loop-one
invariant-loop-one l = gifts_in l.gifts.items ≡ DeviceTexts.all_gifts (all_found (take l.one-index l.found))
