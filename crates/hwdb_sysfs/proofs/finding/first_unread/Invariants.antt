use Rattle.std.proofs.Common.{◌≡◌, length, map}
use Rattle.hwdb_spec_commands.specs.DeviceTree as tree
use Rattle.hwdb_spec_commands.specs.SysfsAnswers.{seen}
use Rattle.hwdb_sysfs.proofs.finding.first_unread.Given as goal

abbrev pub invariant-paths : goal.invariant-paths
invariant-paths g l = g.F.DeviceFiles.tells → tree.first_given (tree.unread_of_path (seen (g.F.DeviceFiles.answers l.files)) l.sys) (map (λ p. p.items) l.left)
    ≡ tree.first_given (tree.unread_of_path (seen (g.F.DeviceFiles.answers l.files)) l.sys) (map (λ p. p.items) l.paths)

abbrev pub decreases-paths : goal.decreases-paths
decreases-paths g l = length l.left
