use Rattle.std.proofs.Common.{◌≡◌, ◌++◌, take}
use Rattle.std.specs.Prelude.{flat_map}
use Rattle.hwdb_spec_commands.specs.DeviceTexts
use Rattle.hwdb_device.specs.Views.{gifts_in}
use Rattle.hwdb_device.proofs.texts.push_all_overridden.Given as goal

abbrev pub invariant-loop-gift : goal.invariant-loop-gift
invariant-loop-gift l = l.text.items ≡ l.fn.text.items ++ flat_map DeviceTexts.overridden_lines (gifts_in (take l.gift-index l.gifts))
