use Rattle.std.proofs.Common.{◌≡◌, take}
use Rattle.hwdb_spec_commands.specs.DeviceTexts
use Rattle.hwdb_device.specs.Views.{all_found}
use Rattle.hwdb_device.proofs.strings.strings_text.Given as goal

abbrev pub invariant-loop-one : goal.invariant-loop-one
invariant-loop-one l = l.text.items ≡ DeviceTexts.strings_text (all_found (take l.one-index l.found))
