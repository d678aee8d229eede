use Rattle.std.proofs.Common.{◌≡◌, flat_map, length, map}
use Rattle.hwdb_spec.specs.Lines.{is, pieces}
use Rattle.hwdb_spec_commands.specs.DeviceFound.{parts_at}
use Rattle.hwdb_spec_commands.specs.DeviceTree.{all_links, nearest_of}
use Rattle.hwdb_spec_commands.specs.SysfsAnswers.{seen}
use Rattle.hwdb_device.proofs.by_word.nearer_of_all.Given as goal

abbrev pub invariant-links : goal.invariant-links
invariant-links g l = g.F.DeviceFiles.tells → nearest_of l.given l.nearest.items (flat_map (parts_at (seen (g.F.DeviceFiles.answers l.sysfs.files.now)) (pieces (is 10) l.sysfs.names.now) l.sysfs.folder.now) (map (λ p. p.items) l.left))
    ≡ nearest_of l.given l.fn.before.items (flat_map (parts_at (seen (g.F.DeviceFiles.answers l.sysfs.files.now)) (pieces (is 10) l.sysfs.names.now) l.sysfs.folder.now) (all_links (seen (g.F.DeviceFiles.answers l.sysfs.files.now)) l.sysfs.folder.now))

abbrev pub decreases-links : goal.decreases-links
decreases-links g l = length l.left
