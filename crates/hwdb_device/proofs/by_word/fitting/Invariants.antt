use Rattle.std.proofs.Common.{◌≡◌, ◌++◌, filter_map, length, map}
use Rattle.hwdb_spec.specs.Lines.{is, pieces}
use Rattle.hwdb_spec_commands.specs.DeviceFound.{fitting_at}
use Rattle.hwdb_spec_commands.specs.DeviceTree.{all_links}
use Rattle.hwdb_spec_commands.specs.SysfsAnswers.{seen}
use Rattle.hwdb_device.proofs.by_word.fitting.Given as goal

abbrev pub invariant-links : goal.invariant-links
invariant-links g l = g.F.DeviceFiles.tells → map (λ p. p.items) l.places.items
    ++ filter_map (fitting_at (seen (g.F.DeviceFiles.answers l.sysfs.files.now)) (pieces (is 10) l.sysfs.names.now) l.sysfs.folder.now l.given) (map (λ p. p.items) l.left)
    ≡ filter_map (fitting_at (seen (g.F.DeviceFiles.answers l.sysfs.files.now)) (pieces (is 10) l.sysfs.names.now) l.sysfs.folder.now l.given) (all_links (seen (g.F.DeviceFiles.answers l.sysfs.files.now)) l.sysfs.folder.now)

abbrev pub decreases-links : goal.decreases-links
decreases-links g l = length l.left
