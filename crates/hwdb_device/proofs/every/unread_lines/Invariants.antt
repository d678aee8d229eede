use Rattle.std.proofs.Common.{◌≡◌, ◌++◌, flat_map, length, map}
use Rattle.hwdb_spec_commands.specs.AllStrings.{unread_at}
use Rattle.hwdb_spec_commands.specs.DeviceTree.{all_links}
use Rattle.hwdb_spec_commands.specs.SysfsAnswers.{seen}
use Rattle.hwdb_device.proofs.every.unread_lines.Given as goal

abbrev pub invariant-links : goal.invariant-links
invariant-links g l = g.F.DeviceFiles.tells → l.text.items ++ flat_map (unread_at (seen (g.F.DeviceFiles.answers l.files)) l.sys) (map (λ p. p.items) l.left)
    ≡ flat_map (unread_at (seen (g.F.DeviceFiles.answers l.files)) l.sys) (all_links (seen (g.F.DeviceFiles.answers l.files)) l.sys)

abbrev pub decreases-links : goal.decreases-links
decreases-links g l = length l.left
