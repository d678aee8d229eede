use Rattle.std.proofs.Common.{◌≡◌, ◌++◌, flat_map, length, map}
use Rattle.hwdb_spec.specs.Lines.{is, pieces}
use Rattle.hwdb_spec_commands.specs.DeviceFound.{place_row}
use Rattle.hwdb_spec_commands.specs.SysfsAnswers.{seen}
use Rattle.hwdb_device.proofs.by_word.push_rows.Given as goal

abbrev pub invariant-places : goal.invariant-places
invariant-places g l = g.F.DeviceFiles.tells → l.text.items
    ++ flat_map (place_row (seen (g.F.DeviceFiles.answers l.sysfs.files.now)) (pieces (is 10) l.sysfs.names.now) l.sysfs.folder.now) (map (λ p. p.items) l.left)
    ≡ l.fn.text.items ++ flat_map (place_row (seen (g.F.DeviceFiles.answers l.sysfs.files.now)) (pieces (is 10) l.sysfs.names.now) l.sysfs.folder.now) (map (λ p. p.items) l.places)

abbrev pub decreases-places : goal.decreases-places
decreases-places g l = length l.left
