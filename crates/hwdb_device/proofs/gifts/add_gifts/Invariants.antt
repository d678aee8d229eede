use Rattle.std.proofs.Common.{◌≡◌, ◌++◌, map, take}
use Rattle.hwdb_spec_commands.specs.DeviceTexts
use Rattle.hwdb_query.specs.Views.{explained_values}
use Rattle.hwdb_device.specs.Views.{gifts_in}
use Rattle.hwdb_device.proofs.gifts.add_gifts.Given as goal

abbrev pub invariant-loop-one : goal.invariant-loop-one
invariant-loop-one l = gifts_in l.gifts.items ≡ gifts_in l.fn.gifts.items ++ map (DeviceTexts.gift_of l.text) (explained_values (take l.one-index l.told))
