use Rattle.std.proofs.Common.{◌≡◌, filter, take}
use Rattle.hwdb_spec_commands.specs.DeviceTexts
use Rattle.hwdb_device.specs.Views.{gifts_in}
use Rattle.hwdb_device.proofs.gifts.given_in_order.Given as goal

abbrev pub invariant-loop-gift : goal.invariant-loop-gift
invariant-loop-gift l = gifts_in l.given.items ≡ filter (DeviceTexts.is_of l.key) (gifts_in (take l.gift-index l.gifts))
