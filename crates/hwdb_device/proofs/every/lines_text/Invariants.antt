use Rattle.std.proofs.Common.{◌≡◌, ◌++◌, flat_map, length, map}
use Rattle.hwdb_spec_commands.specs.DeviceTexts.{line_of}
use Rattle.hwdb_device.proofs.every.lines_text.Given as goal

abbrev pub invariant-texts : goal.invariant-texts
invariant-texts l = l.text.items ++ flat_map line_of (map (λ t. t.items) l.left) ≡ flat_map line_of (map (λ t. t.items) l.texts)

abbrev pub decreases-texts : goal.decreases-texts
decreases-texts l = length l.left
