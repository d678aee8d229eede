use Rattle.std.proofs.Common.{◌≡◌, map, take}
use Rattle.hwdb_spec_commands.specs.DeviceTexts
use Rattle.hwdb_query.specs.Views.{explained_values, pairs_bytes}
use Rattle.hwdb_device.proofs.json_lines.pairs_of_told.Given as goal

abbrev pub invariant-loop-one : goal.invariant-loop-one
invariant-loop-one l = pairs_bytes l.pairs.items ≡ map DeviceTexts.property_of (explained_values (take l.one-index l.told))
