use Rattle.std.proofs.Common.{◌≡◌, map, take}
use Rattle.hwdb_spec_commands.specs.DeviceTexts
use Rattle.hwdb_device.specs.Views.{all_found}
use Rattle.hwdb_device.proofs.nearest.wanting.Given as goal

abbrev pub invariant-loop-one : goal.invariant-loop-one
invariant-loop-one l = map (λ t. t.now) l.texts.items ≡ DeviceTexts.wanting (all_found (take l.one-index l.found))
