use Rattle.std.proofs.Common.{◌≡◌, ◌++◌, take}
use Rattle.std.specs.Prelude.{flat_map}
use Rattle.hwdb_spec_commands.specs.DeviceTexts
use Rattle.hwdb_sysfs.specs.Views.{device_of}
use Rattle.hwdb_device.specs.Views.{all_found}
use Rattle.hwdb_device.proofs.texts.push_all_found.Given as goal

abbrev pub invariant-loop-one : goal.invariant-loop-one
invariant-loop-one l = l.text.items ≡ l.fn.text.items ++ flat_map (DeviceTexts.found_text (device_of l.device)) (all_found (take l.one-index l.found))
