use Rattle.std.proofs.Common.{◌≡◌, take}
use Rattle.std.specs.Prelude.{flat_map}
use Rattle.hwdb_spec_commands.specs.DeviceTexts
use Rattle.hwdb_spec_commands.specs.Json.{json_line}
use Rattle.hwdb_sysfs.specs.Views.{device_of}
use Rattle.hwdb_device.specs.Views.{all_found}
use Rattle.hwdb_device.proofs.json_lines.lookups_json.Given as goal

abbrev pub invariant-loop-one : goal.invariant-loop-one
invariant-loop-one l = l.text.items ≡ flat_map (λ f. json_line (DeviceTexts.found_json (device_of l.device) f)) (all_found (take l.one-index l.found))
